-- The layout rule: the numbered sentences of docs/LAYOUT.md, in their order.
use Rattle.std.specs.Prelude.{◌≡◌, ◌≢◌, ℕ, ◌+◌, ◌*◌, ◌-◌, ◌≤◌, ◌<◌, List, cond, not, get_or, eqb}
use Rattle.sums.specs.Sums.{sum_to}
use Rattle.sums.specs.Ids.{count}
use Rattle.dense.specs.Bits.{bits_to}
use Rattle.layout.specs.Mem.{Mem}
use Rattle.document.specs.Sizes.{InRange, top, last_chunk}
use Rattle.layout.specs.Sizes.{RoomIn, wide, blocks_of, over_at, head, mode_at, over_count, total_at, rows_from, pages_from}
use Rattle.layout.specs.Places.{has_row, has_page, row_part, page_part, row_owner, page_owner}
use Rattle.layout.specs.Entries.{entries, chunk_at, prefix_at, place_at}
use Rattle.layout.specs.Meaning.{ranked}
use Rattle.document.specs.declared.sizes.Sizes.{Sizes}
use Rattle.layout.specs.declared.place.Place.{Place}
use Rattle.layout.specs.declared.place.Place.TheVariants.{Absent, Sparse, Dense}

-- the n elements from a are 0
abbrev pub AllZero : List ℕ → ℕ → ℕ → Type 0
AllZero xs a n = (i : ℕ) → i < n → get_or xs (a + i) 0 ≡ 0

-- overflow entry j's id, beside the next one's
pub record Key (h : Sizes) (t : List ℕ) (j : ℕ) : Type 0 where
  pub low : h.d ≤ get_or t (over_at h j) 0
  pub high : get_or t (over_at h j) 0 < last_chunk h
  pub rising : j + 1 < over_count t → get_or t (over_at h j) 0 < get_or t (over_at h (j + 1)) 0

-- a place of chunk c: inside its pool, and the chunk's own
pub record OwnsRow (h : Sizes) (t : List ℕ) (c r l : ℕ) : Type 0 where
  pub there : r < h.r
  pub some : 1 ≤ l
  pub short : l ≤ h.m
  pub owner : row_owner h t r ≡ c + 1

pub record OwnsPage (h : Sizes) (t : List ℕ) (c p : ℕ) : Type 0 where
  pub there : p < h.p
  pub owner : page_owner h t p ≡ c + 1

abbrev pub Owned : Sizes → List ℕ → ℕ → Place → Type 0
Owned h t c Absent = Unit
Owned h t c (Sparse r l) = OwnsRow h t c r l
Owned h t c (Dense p) = OwnsPage h t c p

-- a row of l offsets
pub record Listed (h : Sizes) (row : List ℕ) (l : ℕ) : Type 0 where
  pub below : (i : ℕ) → i < l → get_or row i 0 < top h
  pub rising : (i : ℕ) → i + 1 < l → get_or row i 0 < get_or row (i + 1) 0
  pub rest : AllZero row l (h.m - l)

abbrev pub RowListed : Sizes → List ℕ → Place → Type 0
RowListed h rows Absent = Unit
RowListed h rows (Sparse r l) = Listed h (row_part h rows r) l
RowListed h rows (Dense p) = Unit

-- members at a place
abbrev pub size_of : Sizes → List ℕ → Place → ℕ
size_of h pages Absent = 0
size_of h pages (Sparse r l) = l
size_of h pages (Dense p) = bits_to (page_part h pages p) (top h)

-- members of entry e
unfoldable pub members_at : Sizes → Mem → ℕ → ℕ
members_at h x e = size_of h x.pages (place_at h x.table e)

-- a count that only a ranked set keeps
abbrev pub when_ranked : Mem → ℕ → ℕ
when_ranked x n = cond (ranked x) n 0

-- of n slots, every one below k has an owner
pub record FullTo (owner : ℕ → ℕ) (n k : ℕ) : Type 0 where
  pub within : k ≤ n
  pub owned : (j : ℕ) → j < k → owner j ≢ 0

-- memory x is laid out by the sizes h
pub record Laid (x : Mem) (h : Sizes) : Type 0 where
  pub sizes : InRange h
  pub room : RoomIn h x
  pub mode : mode_at x.table ≤ 1
  pub unused : AllZero x.table 11 5
  pub over_fits : over_count x.table ≤ h.v
  pub keys : (j : ℕ) → j < over_count x.table → Key h x.table j
  pub words : (j : ℕ) → j < over_count x.table → get_or x.table (over_at h j + 1) 0 ≢ 0
  pub spare : AllZero x.table (over_at h (over_count x.table)) (3 * (h.v - over_count x.table))
  pub places : (e : ℕ) → e < entries h x.table → Owned h x.table (chunk_at h x.table e) (place_at h x.table e)
  pub lists : (e : ℕ) → e < entries h x.table → RowListed h x.rows (place_at h x.table e)
  pub free_rows : (r : ℕ) → r < h.r → row_owner h x.table r ≡ 0 → AllZero x.rows (r * h.m) h.m
  pub free_pages : (p : ℕ) → p < h.p → page_owner h x.table p ≡ 0 → AllZero x.pages (p * wide h) (wide h)
  pub rows_used : count (λ (r : ℕ). not (eqb (row_owner h x.table r) 0)) h.r ≡ count (λ (e : ℕ). has_row (place_at h x.table e)) (entries h x.table)
  pub pages_used : count (λ (p : ℕ). not (eqb (page_owner h x.table p) 0)) h.p ≡ count (λ (e : ℕ). has_page (place_at h x.table e)) (entries h x.table)
  pub prefixes : (e : ℕ) → e < entries h x.table → prefix_at h x.table e ≡ when_ranked x (sum_to (members_at h x) e)
  pub total : total_at x.table ≡ when_ranked x (sum_to (members_at h x) (entries h x.table))
  pub blocks : (p b : ℕ) → p < h.p → b < blocks_of h → get_or x.blocks (p * blocks_of h + b) 0 ≡ when_ranked x (bits_to (page_part h x.pages p) (512 * b))
  pub rows_full_to : FullTo (row_owner h x.table) h.r (rows_from x.table)
  pub pages_full_to : FullTo (page_owner h x.table) h.p (pages_from x.table)

abbrev pub Follows : Mem → Type 0
Follows x = Laid x (head x)

-- The rules that calls test, as computed: sizes and lengths, and the walk over the table, in the order of docs/LAYOUT.md.
use Rattle.std.specs.Prelude.{◌≡◌, ◌≢◌, ℕ, ◌+◌, ◌*◌, ◌-◌, ◌^◌, ◌≤◌, ◌<◌, List, Bool, true, cond, not, ◌&&◌, ◌||◌, length, get_or, leb, ltb, eqb}
use Rattle.sums.specs.Ids.{count}
use Rattle.sums.specs.Rules.{all_to}
use Rattle.layout.specs.Mem.{Mem}
use Rattle.document.specs.Sizes.{InRange, last_chunk}
use Rattle.layout.specs.Sizes.{RoomIn, wide, blocks_of, over_at, table_size, head, mode_at, over_count, total_at, rows_from, pages_from}
use Rattle.layout.specs.Places.{has_row, has_page, row_owner, page_owner}
use Rattle.layout.specs.Entries.{entries, chunk_at, prefix_at, place_at}
use Rattle.layout.specs.Meaning.{ranked}
use Rattle.layout.specs.Follows.{AllZero, Key, Owned, FullTo}
use Rattle.layout.specs.Free.{first_free}
use Rattle.document.specs.declared.sizes.Sizes.{Sizes}
use Rattle.layout.specs.declared.place.Place.{Place}
use Rattle.layout.specs.declared.place.Place.TheVariants.{Absent, Sparse, Dense}

unfoldable pub in_range : Sizes → Bool
in_range h = leb 9 h.s && leb h.s 25 && leb 1 h.m && leb h.m 1024 && leb h.d 262144 && leb h.v 65536 && leb h.r 65536 && leb h.p 65536

-- the slices are long enough
unfoldable pub roomy : Sizes → ℕ → ℕ → ℕ → ℕ → Bool
roomy h pages rows blocks table = leb (h.p * wide h) pages && leb (h.r * h.m) rows && leb (h.p * blocks_of h) blocks && leb (table_size h) table

abbrev pub room_in : Sizes → Mem → Bool
room_in h x = roomy h (length x.pages) (length x.rows) (length x.blocks) (length x.table)

-- 4, 8: the n elements from a are 0
unfoldable pub zero_at : List ℕ → ℕ → ℕ → Bool
zero_at xs a i = eqb (get_or xs (a + i) 0) 0

unfoldable pub zeros : List ℕ → ℕ → ℕ → Bool
zeros xs a n = all_to (zero_at xs a) n

-- 6: overflow entry j's id is at least D, below 2^(63-s), below the next
unfoldable pub key_is : Sizes → List ℕ → ℕ → Bool
key_is h t j =
    leb h.d (get_or t (over_at h j) 0) && ltb (get_or t (over_at h j) 0) (last_chunk h)
    && (leb (over_count t) (j + 1) || ltb (get_or t (over_at h j) 0) (get_or t (over_at h (j + 1)) 0))

-- 7: its word is not 0
unfoldable pub word_is : Sizes → List ℕ → ℕ → Bool
word_is h t j = not (eqb (get_or t (over_at h j + 1) 0) 0)

-- 9: a place of chunk c is inside its pool, and the chunk's own
abbrev pub owned_is : Sizes → List ℕ → ℕ → Place → Bool
owned_is h t c Absent = true
owned_is h t c (Sparse r l) = ltb r h.r && leb 1 l && leb l h.m && eqb (row_owner h t r) (c + 1)
owned_is h t c (Dense p) = ltb p h.p && eqb (page_owner h t p) (c + 1)

unfoldable pub place_is : Sizes → List ℕ → ℕ → Bool
place_is h t e = owned_is h t (chunk_at h t e) (place_at h t e)

-- 13: rows and pages that have an owner; entries that are sparse, that are dense
abbrev pub rows_owned : Sizes → List ℕ → ℕ
rows_owned h t = count (λ (r : ℕ). not (eqb (row_owner h t r) 0)) h.r

abbrev pub pages_owned : Sizes → List ℕ → ℕ
pages_owned h t = count (λ (p : ℕ). not (eqb (page_owner h t p) 0)) h.p

abbrev pub sparse_in : Sizes → List ℕ → ℕ → ℕ
sparse_in h t n = count (λ (e : ℕ). has_row (place_at h t e)) n

abbrev pub dense_in : Sizes → List ℕ → ℕ → ℕ
dense_in h t n = count (λ (e : ℕ). has_page (place_at h t e)) n

unfoldable pub owners_are : Sizes → List ℕ → Bool
owners_are h t = eqb (rows_owned h t) (sparse_in h t (entries h t)) && eqb (pages_owned h t) (dense_in h t (entries h t))

-- of 14 and 15, in a ranked set: the prefix of entry e is at most the next one's, the last at most word 8, which is below 2^63
abbrev pub ranked_at : List ℕ → Bool
ranked_at t = eqb (mode_at t) 1

unfoldable pub prefix_after : Sizes → List ℕ → ℕ → ℕ
prefix_after h t e = cond (ltb (e + 1) (entries h t)) (prefix_at h t (e + 1)) (total_at t)

unfoldable pub prefix_rises : Sizes → List ℕ → ℕ → Bool
prefix_rises h t e = leb (prefix_at h t e) (prefix_after h t e)

unfoldable pub ranks_rise : Sizes → List ℕ → Bool
ranks_rise h t = not (ranked_at t) || (all_to (prefix_rises h t) (entries h t) && ltb (total_at t) (2 ^ 63))

-- 17, 18: header words 9 and 10 are not above the lowest free row and page
unfoldable pub froms_are : Sizes → List ℕ → Bool
froms_are h t = leb (rows_from t) (first_free (row_owner h t) 0 h.r) && leb (pages_from t) (first_free (page_owner h t) 0 h.p)

-- what the walk looks at: all of the table
pub record Walked (x : Mem) (h : Sizes) : Type 0 where
  pub sizes : InRange h
  pub room : RoomIn h x
  pub mode : mode_at x.table ≤ 1
  pub unused : AllZero x.table 11 5
  pub over_fits : over_count x.table ≤ h.v
  pub keys : (j : ℕ) → j < over_count x.table → Key h x.table j
  pub words : (j : ℕ) → j < over_count x.table → get_or x.table (over_at h j + 1) 0 ≢ 0
  pub spare : AllZero x.table (over_at h (over_count x.table)) (3 * (h.v - over_count x.table))
  pub places : (e : ℕ) → e < entries h x.table → Owned h x.table (chunk_at h x.table e) (place_at h x.table e)
  pub rows_used : rows_owned h x.table ≡ sparse_in h x.table (entries h x.table)
  pub pages_used : pages_owned h x.table ≡ dense_in h x.table (entries h x.table)
  pub rising : ranked x ≡ true → (e : ℕ) → e < entries h x.table → prefix_at h x.table e ≤ prefix_after h x.table e
  pub total : ranked x ≡ true → total_at x.table < 2 ^ 63
  pub rows_full_to : FullTo (row_owner h x.table) h.r (rows_from x.table)
  pub pages_full_to : FullTo (page_owner h x.table) h.p (pages_from x.table)

unfoldable pub head_is : Sizes → Mem → Bool
head_is h x = in_range h && room_in h x && leb (mode_at x.table) 1 && leb (over_count x.table) h.v

-- overflow entries (6, 7, 8); all entries (9, 13)
unfoldable pub over_is : Sizes → List ℕ → Bool
over_is h t =
    all_to (key_is h t) (over_count t) && all_to (word_is h t) (over_count t)
    && zeros t (over_at h (over_count t)) (3 * (h.v - over_count t))

unfoldable pub entries_are : Sizes → List ℕ → Bool
entries_are h t = all_to (place_is h t) (entries h t) && owners_are h t

unfoldable pub table_is : Sizes → List ℕ → Bool
table_is h t = zeros t 11 5 && over_is h t && entries_are h t && ranks_rise h t && froms_are h t

unfoldable pub walked : Mem → Bool
walked x = head_is (head x) x && table_is (head x) x.table

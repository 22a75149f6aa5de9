-- Counting members: below a chunk, in a chunk, in all; on memory that follows the layout by entries, and by the prefixes of a ranked set. Assumes nothing.
use mathlib.Core.Path.{◌≡◌, refl, sym, ap, ap₂, subst, ◌∙◌}
use mathlib.Core.List.{List}
use mathlib.Core.Bool.{false}
use Prim.Native.Nat.{ℕ, ◌+◌, ◌*◌, ◌/◌, ◌%◌, ◌^◌, ◌≤◌, ◌<◌}
use native.Mathlib.Nat.{mod-lt, div-add-mod', le-div_iff_mul-le}
use native.Mathlib.Omega.{arith}
use lib.Pow.{pow_pos, high, low}
use mir.Val.{bool_byte}
use Rattle.sums.specs.Sums.{sum_to}
use Rattle.sums.specs.Ids.{count, total}
use Rattle.sums.proofs.Sums.{sum_ext, sum_groups}
use Rattle.sums.proofs.Counts.{count_ext, count_none, count_split}
use Rattle.sparse.specs.Row.{row_of, Rising}
use Rattle.sparse.proofs.Rows.{count_member, below_all}
use Rattle.dense.proofs.Counts.{bits_count}
use Rattle.layout.specs.Mem.{Mem}
use Rattle.document.specs.Sizes.{top, last_chunk}
use Rattle.layout.specs.Sizes.{head}
use Rattle.layout.specs.Places.{row_part, page_part}
use Rattle.layout.specs.Entries.{entries, chunk_at, place_of}
use Rattle.layout.specs.Meaning.{offsets, holds}
use Rattle.layout.specs.Follows.{Listed, RowListed, size_of, members_at, Follows}
use Rattle.document.specs.declared.sizes.Sizes.{Sizes}
use Rattle.layout.specs.declared.place.Place.{Place}
use Rattle.layout.specs.declared.place.Place.TheVariants.{Absent, Sparse, Dense}
use Rattle.layout_laws.specs.Chunks.{members_of, below_in}
use Rattle.layout_laws.proofs.Sizes.{all_ids}
use Rattle.layout_laws.proofs.Keys.{rising_by, Cut, cut_all, cut_key}
use Rattle.layout_laws.proofs.Entries.{Ordered, laid_ordered, chunk_rising, chunk_below, place_of_past, sum_cut, place_of_any}

-- ---- ids and chunks, on any memory

module _ (x : Mem) where
  pub holds_at : (c o : ℕ) → o < top (head x) → holds x (c * top (head x) + o) ≡ offsets (head x) x (place_of (head x) x.table c) o
  unfolding holds
  holds_at c o l = ap₂ (λ (k i : ℕ). offsets (head x) x (place_of (head x) x.table k) i) (high c (head x).s l) (low c (head x).s l)

  -- below chunk c
  pub count_below : (c : ℕ) → count (holds x) (c * top (head x)) ≡ sum_to (members_of x) c
  unfolding count members_of
  count_below c =
      sym (sum_groups (λ (n : ℕ). bool_byte (holds x n)) (top (head x)) c)
      ∙ sum_ext (λ (i : ℕ). sum_to (λ (j : ℕ). bool_byte (holds x (i * top (head x) + j))) (top (head x))) (λ (i : ℕ). sum_to (λ (j : ℕ). bool_byte (offsets (head x) x (place_of (head x) x.table i) j)) (top (head x))) c
      (λ i l. sum_ext (λ (j : ℕ). bool_byte (holds x (i * top (head x) + j))) (λ (j : ℕ). bool_byte (offsets (head x) x (place_of (head x) x.table i) j)) (top (head x)) (λ j m. ap bool_byte (holds_at i j m)))

  -- below offset o of chunk c
  pub count_within : (c o : ℕ) → o ≤ top (head x) → count (holds x) (c * top (head x) + o) ≡ count (holds x) (c * top (head x)) + count (offsets (head x) x (place_of (head x) x.table c)) o
  count_within c o l =
      count_split (holds x) (c * top (head x)) o
      ∙ ap (λ (k : ℕ). count (holds x) (c * top (head x)) + k) (count_ext (λ (j : ℕ). holds x (c * top (head x) + j)) (offsets (head x) x (place_of (head x) x.table c)) o (λ j m. holds_at c j (omega arith)))

  -- below id n: the chunks before n's, and the offsets before n in its own
  pub count_id : (n : ℕ) → count (holds x) n ≡ count (holds x) (n / top (head x) * top (head x)) + count (offsets (head x) x (place_of (head x) x.table (n / top (head x)))) (n % top (head x))
  count_id n =
      let m = mod-lt n (pow_pos (head x).s) in
      ap (count (holds x)) (sym (div-add-mod' n (top (head x)))) ∙ count_within (n / top (head x)) (n % top (head x)) (omega arith)

  -- no id is 2^63 or more
  pub holds_past : Ordered (head x) x.table → (n : ℕ) → 2 ^ 63 ≤ n → holds x n ≡ false
  unfolding holds
  holds_past o n l =
      ap (λ (p : Place). offsets (head x) x p (n % top (head x)))
      (place_of_past (head x) x.table o (n / top (head x)) ((le-div_iff_mul-le {k = top (head x)} {x = last_chunk (head x)} {y = n} (pow_pos (head x).s)).1 (subst (λ (k : ℕ). k ≤ n) (sym (all_ids (head x) o.sizes)) l)))

-- ---- the members of a place

pub listed_rising : (h : Sizes) (row : List ℕ) (l : ℕ) → Listed h row l → Rising (row_of row) l
listed_rising h row l w = rising_by (row_of row) l w.rising

pub count_offsets : (h : Sizes) (x : Mem) (p : Place) → RowListed h x.rows p → (o : ℕ) → count (offsets h x p) o ≡ below_in h x p o
count_offsets h x Absent w o = count_none (offsets h x Absent) o (λ j l. refl)
count_offsets h x (Sparse r l) w o = count_member (row_of (row_part h x.rows r)) l (listed_rising h (row_part h x.rows r) l w) o
count_offsets h x (Dense p) w o = sym (bits_count (page_part h x.pages p) o)

pub below_top : (h : Sizes) (x : Mem) (p : Place) → RowListed h x.rows p → below_in h x p (top h) ≡ size_of h x.pages p
below_top h x Absent w = refl
below_top h x (Sparse r l) w = below_all (row_of (row_part h x.rows r)) l (top h) w.below
below_top h x (Dense p) w = refl

-- ---- on memory that follows the layout

module _ {x : Mem} (w : Follows x) where
  pub listed_of : (c : ℕ) → RowListed (head x) x.rows (place_of (head x) x.table c)
  listed_of = place_of_any (head x) x.table (laid_ordered w) (λ (c : ℕ) (p : Place). RowListed (head x) x.rows p) (λ c. tt) w.lists

  pub size_is : (c : ℕ) → members_of x c ≡ size_of (head x) x.pages (place_of (head x) x.table c)
  unfolding members_of
  size_is c = count_offsets (head x) x (place_of (head x) x.table c) (listed_of c) (top (head x)) ∙ below_top (head x) x (place_of (head x) x.table c) (listed_of c)

  -- where the entries before k are those of the chunks below c
  pub count_cut : (k c : ℕ) → Cut (chunk_at (head x) x.table) (entries (head x) x.table) k c → count (holds x) (c * top (head x)) ≡ sum_to (members_at (head x) x) k
  unfolding members_at
  count_cut k c u =
      count_below x c
      ∙ sum_ext (members_of x) (λ (i : ℕ). size_of (head x) x.pages (place_of (head x) x.table i)) c (λ i l. size_is i)
      ∙ sum_cut (head x) x.table (laid_ordered w) (λ (i : ℕ) (p : Place). size_of (head x) x.pages p) (λ i. refl) k c u

  pub count_entry : (e : ℕ) → e < entries (head x) x.table → count (holds x) (chunk_at (head x) x.table e * top (head x)) ≡ sum_to (members_at (head x) x) e
  count_entry e l = count_cut e (chunk_at (head x) x.table e) (cut_key (chunk_at (head x) x.table) (entries (head x) x.table) (chunk_rising (head x) x.table (laid_ordered w)) e l)

  pub count_total : total (holds x) ≡ sum_to (members_at (head x) x) (entries (head x) x.table)
  unfolding total
  count_total =
      ap (count (holds x)) (sym (all_ids (head x) w.sizes))
      ∙ count_cut (entries (head x) x.table) (last_chunk (head x)) (cut_all (chunk_at (head x) x.table) (entries (head x) x.table) (last_chunk (head x)) (chunk_below (head x) x.table (laid_ordered w)))

  -- the rank of id n: its chunk's first id's, and the offsets below it
  pub count_rank : (n : ℕ) → count (holds x) n ≡ count (holds x) (n / top (head x) * top (head x)) + below_in (head x) x (place_of (head x) x.table (n / top (head x))) (n % top (head x))
  count_rank n =
      count_id x n
      ∙ ap (λ (k : ℕ). count (holds x) (n / top (head x) * top (head x)) + k) (count_offsets (head x) x (place_of (head x) x.table (n / top (head x))) (listed_of (n / top (head x))) (n % top (head x)))

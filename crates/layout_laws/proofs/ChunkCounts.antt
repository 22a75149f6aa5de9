-- Counting chunks by kind: over chunk ids, over entries, by words, by the owners of rows and pages. Assumes nothing.
use mathlib.Core.Path.{◌≡◌, refl, sym, ap, ap₂, ◌∙◌}
use mathlib.Core.Bool.{Bool, true, false, cond, not, ◌&&◌}
use Prim.Native.Nat.{ℕ, zero, suc, ◌+◌, ◌-◌, ◌/◌, ◌%◌, ◌≤◌, ◌<◌}
use native.Mathlib.Nat.{zero-add}
use native.Mathlib.Omega.{arith}
use lib.Dec.{leb, ltb, eqb}
use mir.Val.{bool_byte}
use borrow.Author.Tests.{ne_eqb, le-leb, lt-leb}
use Rattle.sums.specs.Ids.{Ids, count}
use Rattle.sums.proofs.Sums.{sum_ext, sum_add}
use Rattle.sums.proofs.Counts.{count_zero, count_suc, count_ext, count_none, count_split, count_full}
use Rattle.layout.specs.Mem.{Mem}
use Rattle.document.specs.Sizes.{last_chunk}
use Rattle.layout.specs.Sizes.{head, over_count}
use Rattle.layout.specs.Places.{decoded, has_row, has_page, row_owner, page_owner}
use Rattle.layout.specs.Entries.{entries, chunk_at, word_at, place_at}
use Rattle.document.specs.State.{Kind, absent, sparse, dense, is_present, is_sparse, is_dense}
use Rattle.layout.specs.Meaning.{kind_of, kinds, state_of}
use Rattle.document.specs.Answers.{chunks_in}
use Rattle.layout.specs.Tests.{Walked}
use Rattle.layout.specs.declared.place.Place.{Place}
use Rattle.layout.specs.declared.place.Place.TheVariants.{Absent, Sparse, Dense}
use Rattle.layout_laws.proofs.Entries.{Ordered, walked_ordered, chunk_direct, chunk_past, word_over, place_of_past, count_chunks}

-- ---- places and kinds

pub present_word : (w : ℕ) → is_present (kind_of (decoded w)) ≡ not (eqb w 0)
present_word w = go (eqb w 0) (ltb w 268435456)
  where
    go : (a b : Bool) → is_present (kind_of (cond a Absent (cond b (Sparse ((w - 1) / 2048) ((w - 1) % 2048)) (Dense (w - 268435456))))) ≡ not a
    go true b = refl
    go false true = refl
    go false false = refl

pub in_row_is : (p : Place) → is_sparse (kind_of p) ≡ has_row p
in_row_is Absent = refl
in_row_is (Sparse r l) = refl
in_row_is (Dense p) = refl

pub in_page_is : (p : Place) → is_dense (kind_of p) ≡ has_page p
in_page_is Absent = refl
in_page_is (Sparse r l) = refl
in_page_is (Dense p) = refl

present_one : (k : Kind) → bool_byte (is_present k) ≡ bool_byte (is_sparse k) + bool_byte (is_dense k)
present_one absent = refl
present_one sparse = refl
present_one dense = refl

and_no : (b : Bool) → (b && false) ≡ false
and_no true = refl
and_no false = refl

-- yes or no
byte_not : (b : Bool) → bool_byte b + bool_byte (not b) ≡ 1
byte_not true = refl
byte_not false = refl

pub count_not : (P : Ids) (n : ℕ) → count P n + count (λ (j : ℕ). not (P j)) n ≡ n
count_not P zero = omega (arith, count_zero P, count_zero (λ (j : ℕ). not (P j)))
count_not P (suc n) = omega (arith, count_not P n, count_suc P n, count_suc (λ (j : ℕ). not (P j)) n, byte_not (P n))

-- ---- over entries

module _ (x : Mem) (o : Ordered (head x) x.table) where
  -- a yes or no of chunk ids and kinds that absent chunks answer no
  pub count_kinds : (g : ℕ → Kind → Bool) → ((c : ℕ) → g c absent ≡ false) → count (λ (c : ℕ). g c (kinds x c)) (last_chunk (head x)) ≡ count (λ (e : ℕ). g (chunk_at (head x) x.table e) (kind_of (place_at (head x) x.table e))) (entries (head x) x.table)
  unfolding kinds
  count_kinds g none = count_chunks (head x) x.table o (λ (c : ℕ) (p : Place). g c (kind_of p)) none

  pub chunks_entries : chunks_in (state_of x) ≡ count (λ (e : ℕ). not (eqb (word_at (head x) x.table e) 0)) (entries (head x) x.table)
  unfolding chunks_in
  chunks_entries =
      count_kinds (λ (c : ℕ). is_present) (λ c. refl)
      ∙ count_ext (λ (e : ℕ). is_present (kind_of (place_at (head x) x.table e))) (λ (e : ℕ). not (eqb (word_at (head x) x.table e) 0)) (entries (head x) x.table) (λ e l. present_word (word_at (head x) x.table e))

  pub kinds_past : (c : ℕ) → last_chunk (head x) ≤ c → kinds x c ≡ absent
  unfolding kinds
  kinds_past c l = ap kind_of (place_of_past (head x) x.table o c l)

-- each chunk is in a row or in a page
pub chunks_both : (x : Mem) → chunks_in (state_of x) ≡ count (λ (c : ℕ). is_sparse (kinds x c)) (last_chunk (head x)) + count (λ (c : ℕ). is_dense (kinds x c)) (last_chunk (head x))
unfolding chunks_in count
chunks_both x =
    sum_ext (λ (c : ℕ). bool_byte (is_present (kinds x c))) (λ (c : ℕ). bool_byte (is_sparse (kinds x c)) + bool_byte (is_dense (kinds x c))) (last_chunk (head x)) (λ c l. present_one (kinds x c))
    ∙ sum_add (λ (c : ℕ). bool_byte (is_sparse (kinds x c))) (λ (c : ℕ). bool_byte (is_dense (kinds x c))) (last_chunk (head x))

-- ---- on memory that passed the walk

module _ {x : Mem} (w : Walked x (head x)) where
  -- the overflow entries in use are chunks, each
  pub chunks_over : chunks_in (state_of x) ≡ count (λ (e : ℕ). not (eqb (word_at (head x) x.table e) 0)) (head x).d + over_count x.table
  chunks_over =
      chunks_entries x (walked_ordered w)
      ∙ count_split (λ (e : ℕ). not (eqb (word_at (head x) x.table e) 0)) (head x).d (over_count x.table)
      ∙ ap (λ (k : ℕ). count (λ (e : ℕ). not (eqb (word_at (head x) x.table e) 0)) (head x).d + k)
      (count_full (λ (j : ℕ). not (eqb (word_at (head x) x.table ((head x).d + j)) 0)) (over_count x.table)
      (λ j l. ap not (ne_eqb (word_at (head x) x.table ((head x).d + j)) 0 (λ e. w.words j l (sym (word_over (head x) x.table j) ∙ e)))))

  -- and they are all those with an id of D or more
  pub over_chunks : count (λ (c : ℕ). leb (head x).d c && is_present (kinds x c)) (last_chunk (head x)) ≡ over_count x.table
  over_chunks =
      count_kinds x (walked_ordered w) (λ (c : ℕ) (k : Kind). leb (head x).d c && is_present k) (λ c. and_no (leb (head x).d c))
      ∙ count_split past (head x).d (over_count x.table)
      ∙ ap₂ ◌+◌ (count_none past (head x).d early) (count_full (λ (j : ℕ). past ((head x).d + j)) (over_count x.table) late)
      ∙ zero-add (over_count x.table)
    where
      past : ℕ → Bool
      past e = leb (head x).d (chunk_at (head x) x.table e) && is_present (kind_of (place_at (head x) x.table e))

      early : (e : ℕ) → e < (head x).d → past e ≡ false
      early e l = ap (λ (b : Bool). b && is_present (kind_of (place_at (head x) x.table e))) (lt-leb (head x).d (chunk_at (head x) x.table e) (let q = chunk_direct (head x) x.table e l in omega arith))

      late : (j : ℕ) → j < over_count x.table → past ((head x).d + j) ≡ true
      late j l =
          ap₂ ◌&&◌ (le-leb (head x).d (chunk_at (head x) x.table ((head x).d + j)) (chunk_past (head x) x.table (walked_ordered w) ((head x).d + j) (omega arith) (omega arith)))
          (present_word (word_at (head x) x.table ((head x).d + j)) ∙ ap not (ne_eqb (word_at (head x) x.table ((head x).d + j)) 0 (λ e. w.words j l (sym (word_over (head x) x.table j) ∙ e))))

  -- sparse chunks are rows with an owner, dense ones pages
  pub sparse_rows : count (λ (c : ℕ). is_sparse (kinds x c)) (last_chunk (head x)) ≡ count (λ (r : ℕ). not (eqb (row_owner (head x) x.table r) 0)) (head x).r
  sparse_rows =
      count_kinds x (walked_ordered w) (λ (c : ℕ). is_sparse) (λ c. refl)
      ∙ count_ext (λ (e : ℕ). is_sparse (kind_of (place_at (head x) x.table e))) (λ (e : ℕ). has_row (place_at (head x) x.table e)) (entries (head x) x.table) (λ e l. in_row_is (place_at (head x) x.table e))
      ∙ sym w.rows_used

  pub dense_pages : count (λ (c : ℕ). is_dense (kinds x c)) (last_chunk (head x)) ≡ count (λ (p : ℕ). not (eqb (page_owner (head x) x.table p) 0)) (head x).p
  dense_pages =
      count_kinds x (walked_ordered w) (λ (c : ℕ). is_dense) (λ c. refl)
      ∙ count_ext (λ (e : ℕ). is_dense (kind_of (place_at (head x) x.table e))) (λ (e : ℕ). has_page (place_at (head x) x.table e)) (entries (head x) x.table) (λ e l. in_page_is (place_at (head x) x.table e))
      ∙ sym w.pages_used

  -- and the others are free
  pub rows_free : count (λ (r : ℕ). eqb (row_owner (head x) x.table r) 0) (head x).r + count (λ (c : ℕ). is_sparse (kinds x c)) (last_chunk (head x)) ≡ (head x).r
  rows_free = let a = sparse_rows in let b = count_not (λ (r : ℕ). eqb (row_owner (head x) x.table r) 0) (head x).r in omega arith

  pub pages_free : count (λ (p : ℕ). eqb (page_owner (head x) x.table p) 0) (head x).p + count (λ (c : ℕ). is_dense (kinds x c)) (last_chunk (head x)) ≡ (head x).p
  pages_free = let a = dense_pages in let b = count_not (λ (p : ℕ). eqb (page_owner (head x) x.table p) 0) (head x).p in omega arith

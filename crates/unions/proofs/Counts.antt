-- What judging counts over the source's entries is what the map of the union needs: overflow entries, rows, pages. Assumes nothing.
use mathlib.Core.Path.{◌≡◌, refl, sym, ap, ap₂, ◌∙◌}
use mathlib.Core.Bool.{Bool, true, false, cond, not, ◌&&◌}
use Prim.Native.Nat.{ℕ, ◌+◌, ◌<◌}
use native.Mathlib.Omega.{arith}
use lib.Dec.{leb}
use mir.Val.{bool_byte}
use Rattle.sums.specs.Ids.{Ids, count}
use Rattle.sums.proofs.Sums.{sum_ext, sum_add}
use Rattle.sums.proofs.Counts.{count_ext, count_none}
use Rattle.document.specs.Sizes.{last_chunk}
use Rattle.document.specs.State as state
use Rattle.document.specs.State.{Kind, sparse, dense, is_present, is_sparse}
use Rattle.document.specs.Room.{overflows, sparses, denses}
use Rattle.document.specs.Union.{union_map, same_shape}
use Rattle.layout.specs.Mem.{Mem}
use Rattle.layout.specs.Sizes.{head}
use Rattle.layout.specs.Places.{has_row, has_page}
use Rattle.layout.specs.Entries.{place_at, place_of}
use Rattle.layout.specs.Meaning.{kind_of, kinds, state_of}
use Rattle.layout.specs.Follows.{Follows}
use Rattle.layout.specs.Tests.{Walked}
use Rattle.layout.specs.declared.place.Place.{Place}
use Rattle.layout.specs.declared.place.Place.TheVariants.{Absent, Sparse, Dense}
use Rattle.layout_laws.proofs.Walked.{laid_walked}
use Rattle.layout_laws.proofs.Entries.{walked_ordered, count_chunks}
use Rattle.layout_laws.proofs.ChunkCounts.{over_chunks, sparse_rows, dense_pages}
use Rattle.unions.specs.Union.{standing, source, source_chunk, source_entries, is_placed, union_dense, new_entry, new_row, freed_row, new_page, over_after, rows_after, pages_after}
use Rattle.unions.proofs.Standing.{standing_is, source_is}
use Rattle.unions.proofs.Results.{same_last, kind_after, result_is}

-- ---- counts that balance id by id

module _ (P Q R S : Ids) (n : ℕ) where
  count_balance : ((j : ℕ) → j < n → bool_byte (P j) + bool_byte (Q j) ≡ bool_byte (R j) + bool_byte (S j)) → count P n + count Q n ≡ count R n + count S n
  unfolding count
  count_balance h =
      sym (sum_add (λ (j : ℕ). bool_byte (P j)) (λ (j : ℕ). bool_byte (Q j)) n)
      ∙ sum_ext (λ (j : ℕ). bool_byte (P j) + bool_byte (Q j)) (λ (j : ℕ). bool_byte (R j) + bool_byte (S j)) n h
      ∙ sum_add (λ (j : ℕ). bool_byte (R j)) (λ (j : ℕ). bool_byte (S j)) n

pub count_more : (P Q R : Ids) (n : ℕ) → ((j : ℕ) → j < n → bool_byte (P j) + bool_byte (Q j) ≡ bool_byte (R j)) → count P n + count Q n ≡ count R n
count_more P Q R n h =
    let a = count_balance P Q R (λ (_ : ℕ). false) n (λ j l. let e = h j l in omega arith) in
    let b = count_none (λ (_ : ℕ). false) n (λ j l. refl) in
    omega arith

-- ---- one chunk, at o here and at q there

module _ (x y : Mem) where
  over_one : (past : Bool) (o q : Place)
      → bool_byte (past && is_present (kind_of o)) + bool_byte (is_placed q && (past && not (is_placed o))) ≡ bool_byte (past && is_present (kind_after x y o q))
  over_one false o Absent = refl
  over_one false o (Sparse i k) = refl
  over_one false o (Dense p) = refl
  over_one true o Absent = omega arith
  over_one true Absent (Sparse i k) = refl
  over_one true (Sparse r l) (Sparse i k) = go (union_dense x y (Sparse r l) (Sparse i k))
    where
      go : (b : Bool) → 1 + 0 ≡ bool_byte (is_present (cond b dense sparse))
      go true = refl
      go false = refl
  over_one true (Dense p) (Sparse i k) = refl
  over_one true Absent (Dense p) = refl
  over_one true (Sparse r l) (Dense p) = refl
  over_one true (Dense q) (Dense p) = refl

  row_one : (o q : Place)
      → bool_byte (is_sparse (kind_of o)) + bool_byte (has_row q && not (is_placed o)) ≡ bool_byte (is_sparse (kind_after x y o q)) + bool_byte (union_dense x y o q && has_row o)
  row_one o Absent = refl
  row_one Absent (Sparse i k) = refl
  row_one (Sparse r l) (Sparse i k) = go (union_dense x y (Sparse r l) (Sparse i k))
    where
      go : (b : Bool) → 1 + 0 ≡ bool_byte (is_sparse (cond b dense sparse)) + bool_byte (b && true)
      go true = refl
      go false = refl
  row_one (Dense p) (Sparse i k) = refl
  row_one Absent (Dense p) = refl
  row_one (Sparse r l) (Dense p) = refl
  row_one (Dense q) (Dense p) = refl

  page_one : (o q : Place)
      → bool_byte (state.is_dense (kind_of o)) + bool_byte (union_dense x y o q && not (has_page o)) ≡ bool_byte (state.is_dense (kind_after x y o q))
  page_one o Absent = omega arith
  page_one Absent (Sparse i k) = refl
  page_one (Sparse r l) (Sparse i k) = go (union_dense x y (Sparse r l) (Sparse i k))
    where
      go : (b : Bool) → 0 + bool_byte (b && true) ≡ bool_byte (state.is_dense (cond b dense sparse))
      go true = refl
      go false = refl
  page_one (Dense p) (Sparse i k) = refl
  page_one Absent (Dense p) = refl
  page_one (Sparse r l) (Dense p) = refl
  page_one (Dense q) (Dense p) = refl

-- ---- all chunks

-- a yes or no of the source's entries, of places here and there, is one of chunk ids
module _ {x y : Mem} (w : Walked x (head x)) (v : Walked y (head y)) (same : same_shape (head x) (head y) ≡ true) where
  pub by_chunks : (f : ℕ → Bool) (g : ℕ → Place → Place → Bool) → ((c : ℕ) (o : Place) → g c o Absent ≡ false)
      → ((e : ℕ) → f e ≡ g (source_chunk y e) (standing x (source_chunk y e)) (source y e))
      → count f (source_entries y) ≡ count (λ (c : ℕ). g c (place_of (head x) x.table c) (place_of (head y) y.table c)) (last_chunk (head x))
  by_chunks f g none each =
      let here = place_of (head x) x.table in
      count_ext f (λ (e : ℕ). g (source_chunk y e) (here (source_chunk y e)) (place_at (head y) y.table e)) (source_entries y)
      (λ e l. each e ∙ ap₂ (g (source_chunk y e)) (standing_is w (source_chunk y e)) (source_is v e l))
      ∙ sym (count_chunks (head y) y.table (walked_ordered v) (λ (c : ℕ) (q : Place). g c (here c) q) (λ c. none c (here c)))
      ∙ ap (count (λ (c : ℕ). g c (here c) (place_of (head y) y.table c))) (sym (same_last x y same))

module _ {x y : Mem} (w : Follows x) (v : Follows y) (same : same_shape (head x) (head y) ≡ true) where
  abbrev here : ℕ → Place
  here c = place_of (head x) x.table c

  abbrev there : ℕ → Place
  there c = place_of (head y) y.table c

  abbrev after : ℕ → Kind
  after = union_map (state_of x) (state_of y)

  abbrev enters : ℕ → Place → Place → Bool
  enters c o q = is_placed q && (leb (head x).d c && not (is_placed o))

  pub over_after_law : over_after x y ≡ overflows (head x) after
  unfolding overflows new_entry kinds
  over_after_law =
      let a = over_chunks (laid_walked w) in
      let b = by_chunks (laid_walked w) (laid_walked v) same (new_entry x y) enters (λ c o. refl) (λ e. refl) in
      let d = count_more (λ (c : ℕ). leb (head x).d c && is_present (kinds x c)) (λ (c : ℕ). enters c (here c) (there c))
      (λ (c : ℕ). leb (head x).d c && is_present (after c)) (last_chunk (head x))
      (λ c l. over_one x y (leb (head x).d c) (here c) (there c) ∙ ap (λ (k : Kind). bool_byte (leb (head x).d c && is_present k)) (sym (result_is w v same c))) in
      omega arith

  abbrev fills : ℕ → Place → Place → Bool
  fills c o q = has_row q && not (is_placed o)

  abbrev frees : ℕ → Place → Place → Bool
  frees c o q = union_dense x y o q && has_row o

  pub rows_after_law : rows_after x y ≡ sparses (head x) after
  unfolding sparses new_row freed_row kinds
  rows_after_law =
      let a = sparse_rows (laid_walked w) in
      let b = by_chunks (laid_walked w) (laid_walked v) same (new_row x y) fills (λ c o. refl) (λ e. refl) in
      let d = by_chunks (laid_walked w) (laid_walked v) same (freed_row x y) frees (λ c o. refl) (λ e. refl) in
      let f = count_balance (λ (c : ℕ). is_sparse (kinds x c)) (λ (c : ℕ). fills c (here c) (there c)) (λ (c : ℕ). is_sparse (after c))
      (λ (c : ℕ). frees c (here c) (there c)) (last_chunk (head x))
      (λ c l.
      row_one x y (here c) (there c)
      ∙ ap (λ (k : Kind). bool_byte (is_sparse k) + bool_byte (frees c (here c) (there c))) (sym (result_is w v same c))) in
      omega arith

  abbrev pages : ℕ → Place → Place → Bool
  pages c o q = union_dense x y o q && not (has_page o)

  pub pages_after_law : pages_after x y ≡ denses (head x) after
  unfolding denses new_page kinds
  pages_after_law =
      let a = dense_pages (laid_walked w) in
      let b = by_chunks (laid_walked w) (laid_walked v) same (new_page x y) pages (λ c o. refl) (λ e. refl) in
      let d = count_more (λ (c : ℕ). state.is_dense (kinds x c)) (λ (c : ℕ). pages c (here c) (there c)) (λ (c : ℕ). state.is_dense (after c)) (last_chunk (head x))
      (λ c l. page_one x y (here c) (there c) ∙ ap (λ (k : Kind). bool_byte (state.is_dense k)) (sym (result_is w v same c))) in
      omega arith

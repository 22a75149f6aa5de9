-- Union writes nothing past the sizes, on any two memories: what the walks saw, and judging counted, holds after each turn. Assumes nothing.
use mathlib.Core.Path.{◌≡◌, refl, sym, ap, subst, ◌∙◌}
use mathlib.Core.List.{List}
use mathlib.Core.Bool.{Bool, true, false, cond, ◌&&◌}
use Prim.Native.Nat.{ℕ, zero, suc, ◌-◌, ◌^◌, ◌≤◌, ◌<◌}
use native.Mathlib.Omega.{arith}
use lib.ListN.{length}
use lib.Dec.{leb, ltb}
use borrow.Author.Tests.{ltb-true, leb-true}
use Rattle.sums.proofs.Rules.{both}
use Rattle.sparse.specs.Edit.{copied}
use Rattle.sparse.specs.Union.{on_front}
use Rattle.sparse.proofs.Edits.{length_copied}
use Rattle.sparse.proofs.Unions.{length_front}
use Rattle.dense.specs.Bits.{with_row}
use Rattle.dense.proofs.Bits.{length_row}
use Rattle.document.specs.Sizes.{top}
use Rattle.document.specs.Union.{Join, merge_from, merge, same_shape}
use Rattle.document.specs.declared.sizes.Sizes.{Sizes}
use Rattle.layout.specs.Mem.{Mem}
use Rattle.layout.specs.Sizes.{wide, head}
use Rattle.layout.specs.Places.{decoded, encoded, row_part, page_part}
use Rattle.layout.specs.Entries.{place_at}
use Rattle.layout.specs.Short.{word_in}
use Rattle.layout.specs.Spare.{Spare}
use Rattle.layout.specs.Tests.{Walked}
use Rattle.layout.specs.Writes.{put_page}
use Rattle.layout.specs.declared.place.Place.{Place}
use Rattle.layout.specs.declared.place.Place.TheVariants.{Absent, Sparse, Dense}
use Rattle.layout_laws.proofs.Sizes.{row_length, page_length}
use Rattle.layout_laws.proofs.Spares.{row_slot, page_slot, slot_beyond, spare_same, fresh_spare}
use Rattle.steps.specs.Steps.{rowed, paged}
use Rattle.steps.proofs.Orders.{paged_wrote}
use Rattle.steps.proofs.Spares.{LeftSlot, rowed_spare, paged_spare}
use Rattle.calls.specs.Insert.{free_row, free_page}
use Rattle.calls.specs.Prepare.{into_page}
use Rattle.unions.specs.Union.{fits, fitted, named, standing, source, source_chunk, source_entries, is_placed, rows_union}
use Rattle.unions.specs.Union.{union_dense, page_of, with_source, joined_page, densely, dense_to}
use Rattle.unions.specs.Union.{sparsely, sparse_to, united_by, over_after, left_by, met_if, union_plan, union_by}
use Rattle.unions.proofs.Results.{same_s, same_m}
use Rattle.unions.proofs.Judged.{judged_room}
use Rattle.unions.proofs.Accepted.{accepted}
use Rattle.unions.proofs.DenseTurns.{length_source}
use Rattle.unions.proofs.FirstPass.{dense_placed}
use Rattle.unions.proofs.Entered.{rowed_wrote, Sound, sound_start, sound_pages, entry_left, entry_room, sound_wrote}
use Rattle.document.specs.Results.{Outcome}
use Rattle.layout.specs.Found.{Word}
use Rattle.std.specs.Prelude.{Err, Ok}

-- ---- places as union reads them are the sizes'

fitted_fits : (h : Sizes) (q : Place) → fits h (fitted h q) ≡ true
fitted_fits h q = go (fits h q) refl
  where
    go : (b : Bool) → fits h q ≡ b → fits h (cond b q Absent) ≡ true
    go true e = e
    go false e = refl

standing_fits : (z : Mem) (c : ℕ) → fits (head z) (standing z c) ≡ true
unfolding standing
standing_fits z c = go (word_in z.table c)
  where
    go : (w : Word) → fits (head z) (named (head z) w) ≡ true
    go (Ok w) = fitted_fits (head z) (decoded w)
    go (Err n) = refl

source_fits : (y : Mem) (e : ℕ) → fits (head y) (source y e) ≡ true
unfolding source
source_fits y e = fitted_fits (head y) (place_at (head y) y.table e)

fits_row : (h : Sizes) (r l : ℕ) → fits h (Sparse r l) ≡ true → (r < h.r) × (l ≤ h.m)
fits_row h r l e = let g = both (ltb r h.r) (leb l h.m) e in (ltb-true r h.r g.0, leb-true l h.m g.1)

fits_page : (h : Sizes) (q : Place) → fits h q ≡ true → (p : ℕ) → q ≡ Dense p → p < h.p
fits_page h q e p k = ltb-true p h.p (sym (ap (fits h) k) ∙ e)

-- ---- one turn

module _ {x y : Mem} (w : Walked x (head x)) (v : Walked y (head y)) (same : same_shape (head x) (head y) ≡ true) (over : over_after x y ≤ (head x).v) where
  -- the source's members into a page
  joined_sound : {z : Mem} → Sound x y z → (o q : Place) → fits (head y) q ≡ true → (p : ℕ) → p < (head z).p → Sound x y (joined_page z y o p q)
  joined_sound {z} s o q ok p there =
      let page = page_part (head z) z.pages p in
      let e : wide (head y) ≡ wide (head z) = ap (λ (k : ℕ). 2 ^ (k - 6)) (sym (same_s x y same) ∙ sym (ap (λ (h : Sizes). h.s) s.sizes)) in
      sound_pages w v same over s (put_page (head z) z.pages p (with_source y o page q))
      (slot_beyond (head z).p z.pages p (wide (head z)) (with_source y o page q) (page_slot (head z) z s.room p there)
      (length_source y v.room o q (fits_page (head y) q ok) page (page_length (head z) z s.room p there ∙ sym e) ∙ e))

  module _ {z : Mem} (s : Sound x y z) (e : ℕ) (l : e < source_entries y) where
    abbrev c : ℕ
    c = source_chunk y e

    module _ (some : is_placed (source y e) ≡ true) where
      paged_sound : (o : Place) → LeftSlot (head z) z o → (p : ℕ) → p < (head z).p → (page : List ℕ) → length page ≡ wide (head z)
          → Sound x y (paged (head z) z c o p page)
      paged_sound o left p there page long =
          sound_wrote w v same over s e l some (paged (head z) z c o p page) (encoded (Dense p))
          (paged_wrote (head z) z s.ordered s.room.in_table s.fits c (entry_left w v same over s e l some) o p page)
          (omega arith)
          (paged_spare (head z) z c (entry_room w v same over s e l some) o p page left (page_slot (head z) z s.room p there) long)

      rowed_sound : (r : ℕ) → r < (head z).r → (k : ℕ) (row : List ℕ) → length row ≡ (head z).m → Sound x y (rowed (head z) z c r k row)
      rowed_sound r there k row long =
          sound_wrote w v same over s e l some (rowed (head z) z c r k row) (encoded (Sparse r k))
          (rowed_wrote (head z) z s.ordered s.room.in_table s.fits c (entry_left w v same over s e l some) r k row)
          (omega arith)
          (rowed_spare (head z) z c (entry_room w v same over s e l some) r k row (row_slot (head z) z s.room r there) long)

      into_sound : (o : Place) → fits (head z) o ≡ true → page_of z o < (head z).p → Sound x y (into_page (head z) z c (page_of z o) o)
      into_sound Absent ok there =
          paged_sound Absent tt (free_page z) there (page_part (head z) z.pages (free_page z)) (page_length (head z) z s.room (free_page z) there)
      into_sound (Sparse r k) ok there =
          let page = page_part (head z) z.pages (free_page z) in
          let row = row_part (head z) z.rows r in
          paged_sound (Sparse r k) (row_slot (head z) z s.room r (fits_row (head z) r k ok).0) (free_page z) there (with_row page row (top (head z)) k)
          (length_row page row (top (head z)) k ∙ page_length (head z) z s.room (free_page z) there)
      into_sound (Dense p) ok there = s

    dense_sound : (o q : Place) → fits (head z) o ≡ true → source y e ≡ q → fits (head y) q ≡ true → Sound x y (densely z y c o q)
    dense_sound o q ok from ok' = go (union_dense z y o q) refl (ltb (page_of z o) (head z).p) refl
      where
        go : (a : Bool) → union_dense z y o q ≡ a → (b : Bool) → ltb (page_of z o) (head z).p ≡ b
            → Sound x y (cond (a && b) (joined_page (into_page (head z) z c (page_of z o) o) y o (page_of z o) q) z)
        go true d true m =
            let there = ltb-true (page_of z o) (head z).p m in
            let n = into_sound (ap is_placed from ∙ dense_placed z y o q d) o ok there in
            joined_sound n o q ok' (page_of z o)
            (subst (λ (h : Sizes). page_of z o < h.p) (s.sizes ∙ sym n.sizes) there)
        go true d false m = s
        go false d b m = s

    sparse_sound : (o q : Place) → fits (head z) o ≡ true → source y e ≡ q → fits (head y) q ≡ true → Sound x y (sparsely z y c o q)
    sparse_sound o Absent ok from ok' = s
    sparse_sound o (Dense p) ok from ok' = s
    sparse_sound (Dense p) (Sparse i k) ok from ok' = s
    sparse_sound Absent (Sparse i k) ok from ok' = go (ltb (free_row z) (head z).r) refl
      where
        go : (b : Bool) → ltb (free_row z) (head z).r ≡ b
            → Sound x y (cond b (rowed (head z) z c (free_row z) k (copied (row_part (head y) y.rows i) (row_part (head z) z.rows (free_row z)) k)) z)
        go true m =
            let there = ltb-true (free_row z) (head z).r m in
            let f = fits_row (head y) i k ok' in
            let a = row_length (head y) y v.room i f.0 in
            let b = row_length (head z) z s.room (free_row z) there in
            let k_in = f.1 in
            let same_row = same_m x y same in
            let now = ap (λ (h : Sizes). h.m) s.sizes in
            rowed_sound (ap is_placed from) (free_row z) there k (copied (row_part (head y) y.rows i) (row_part (head z) z.rows (free_row z)) k)
            (length_copied (row_part (head y) y.rows i) (row_part (head z) z.rows (free_row z)) k (omega arith) (omega arith) ∙ b)
        go false m = s
    sparse_sound (Sparse r n) (Sparse i k) ok from ok' = go (leb (length (rows_union z y r n i k)) (head z).m) refl
      where
        go : (b : Bool) → leb (length (rows_union z y r n i k)) (head z).m ≡ b
            → Sound x y (cond b (rowed (head z) z c r (length (rows_union z y r n i k)) (on_front (rows_union z y r n i k) (row_part (head z) z.rows r))) z)
        go true m =
            let there = (fits_row (head z) r n ok).0 in
            let short = leb-true (length (rows_union z y r n i k)) (head z).m m in
            let a = row_length (head z) z s.room r there in
            rowed_sound (ap is_placed from) r there (length (rows_union z y r n i k)) (on_front (rows_union z y r n i k) (row_part (head z) z.rows r))
            (length_front (rows_union z y r n i k) (row_part (head z) z.rows r) (omega arith) ∙ a)
        go false m = s

  -- ---- all of them

  dense_all : (e : ℕ) → e ≤ source_entries y → Sound x y (dense_to x y e)
  unfolding dense_to
  dense_all zero l = sound_start y w
  dense_all (suc e) l =
      dense_sound (dense_all e (omega arith)) e (omega arith) (standing (dense_to x y e) (source_chunk y e)) (source y e)
      (standing_fits (dense_to x y e) (source_chunk y e)) refl (source_fits y e)

  sparse_all : (z : Mem) → Sound x y z → (e : ℕ) → e ≤ source_entries y → Sound x y (sparse_to z y e)
  unfolding sparse_to
  sparse_all z s zero l = s
  sparse_all z s (suc e) l =
      sparse_sound (sparse_all z s e (omega arith)) e (omega arith) (standing (sparse_to z y e) (source_chunk y e)) (source y e)
      (standing_fits (sparse_to z y e) (source_chunk y e)) refl (source_fits y e)

  pub united_spare : Spare (head x) x (united_by x y)
  unfolding united_by
  united_spare = (sparse_all (dense_to x y (source_entries y)) (dense_all (source_entries y) (omega arith)) (source_entries y) (omega arith)).spare

-- ---- the call

module _ (x y : Mem) (j : Join) where
  pub union_here_spare : Spare (head x) x (union_by x y j).here
  unfolding union_by
  union_here_spare = go (union_plan x y j) refl
    where
      go : (a : Outcome) → union_plan x y j ≡ a → Spare (head x) x (met_if x y j a).here
      go (Ok tt) e = let f = accepted x y j e in united_spare f.walks f.source_walks f.same (judged_room x y f.room).0
      go (Err n) e = spare_same

  -- the source, which `merge` sets up anew
  pub union_there_spare : Spare (head y) y (union_by x y j).there
  unfolding union_by
  union_there_spare = go (union_plan x y j) refl
    where
      left : Walked y (head y) → (i : Join) → Spare (head y) y (left_by y i)
      left v merge_from = spare_same
      left v merge = fresh_spare (head y) y v.room

      go : (a : Outcome) → union_plan x y j ≡ a → Spare (head y) y (met_if x y j a).there
      go (Ok tt) e = left (accepted x y j e).source_walks j
      go (Err n) e = spare_same

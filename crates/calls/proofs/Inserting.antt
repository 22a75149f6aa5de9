-- `set_if_new` and the prepared insert on memory that follows the layout do what document 01 says. Assumes nothing.
use mathlib.Core.Path.{◌≡◌, refl, sym, ap, subst, ◌∙◌}
use mathlib.Core.List.{List}
use mathlib.Core.Bool.{Bool, true, false, cond}
use Prim.Native.Nat.{ℕ}
use lib.IntN.{ℤ, pos, negsuc}
use lib.Dec.{ltb}
use mir.Val.{SFits}
use mir.Syntax.{w64}
use borrow.Author.Tests.{ltb-true, ltb-false}
use Rattle.numbers.proofs.Signs.{pos_below}
use Rattle.sparse.specs.Row.{row_of, member, below_of}
use Rattle.sparse.specs.Search.{spot_in, place_if}
use Rattle.dense.specs.Bits.{is_set}
use Rattle.layout.specs.Mem.{Mem}
use Rattle.layout.specs.Sizes.{head}
use Rattle.layout.specs.Places.{row_part, page_part}
use Rattle.document.specs.State.{Kind}
use Rattle.layout.specs.Meaning.{holds, kind_of, kinds, ranked, state_of}
use Rattle.layout.specs.Follows.{Follows}
use Rattle.layout.specs.declared.place.Place.{Place}
use Rattle.layout.specs.declared.place.Place.TheVariants.{Absent, Sparse, Dense}
use Rattle.calls.proofs.Outcomes.{Inserts}
use Rattle.calls.specs.Insert.{turn_dense, into_row, into_place, into_dense, insert_plan, prepared_plan, Told, told, acted, if_open, insert_at, insert_by, prepared_at, prepared_by}
use Rattle.document.specs.Insert.{new_answer, if_dense, prepared_answer}
use Rattle.document.specs.Room.{verdict}
use Rattle.calls.proofs.RowEdits.{spot_listed}
use Rattle.calls.proofs.Plans.{if_open_law, plan_at, prepared_at_law}
use Rattle.calls.proofs.Grown.{refuses, known_member, known_negative}
use Rattle.calls.proofs.Wanted.{chunk, offset, placed, after, Says, Good, Into, holds_of, kind_of_law, known_good}
use Rattle.calls.proofs.Begins.{absent_good}
use Rattle.calls.proofs.Marks.{mark_good, dense_good}
use Rattle.calls.proofs.Rowings.{own_listed, own_long}
use Rattle.calls.proofs.Enters.{enter_good}
use Rattle.calls.proofs.Turns.{turn_plan}
use Rattle.calls.specs.Planned.{InsertPlan}
use Rattle.calls.specs.declared.plan.Plan.TheVariants.{Enter, Known, Mark}
use Rattle.document.specs.Refusals.{is_ranked, not_prepared}
use Rattle.document.specs.Results.{Truth}
use Rattle.std.specs.Prelude.{Err, None, Ok, Result, Some}

-- ---- into an open set, by the place of the id's chunk

module _ {x : Mem} {n : ℕ} (i : Into x n) where
  module _ (r l : ℕ) (e : placed x n ≡ Sparse r l) where
    abbrev row : List ℕ
    row = row_part (head x) x.rows r

    abbrev place : ℕ
    place = below_of (row_of row) l (offset x n)

    sparse_new : (b : Bool) → ltb l (head x).m ≡ b → member (row_of row) l (offset x n) ≡ false → Good x n (cond b (Ok (Enter r l place)) (turn_dense x r l))
    sparse_new true p new = enter_good i r l e (ltb-true l (head x).m p) new
    sparse_new false p new = turn_plan i r l e (ltb-false l (head x).m p) new

    sparse_if : (b : Bool) → member (row_of row) l (offset x n) ≡ b → Good x n (into_row x r l (place_if b place))
    sparse_if true p = known_good i (holds_of i (Sparse r l) e ∙ p)
    sparse_if false p = sparse_new (ltb l (head x).m) refl p

    sparse_good : Good x n (into_row x r l (spot_in row l (offset x n)))
    sparse_good =
        subst (λ (s : Result ℕ ℕ). Good x n (into_row x r l s)) (sym (spot_listed (head x) row l (offset x n) (own_listed i r l e) (own_long i r l e)))
        (sparse_if (member (row_of row) l (offset x n)) refl)

  place_good : (p : Place) → placed x n ≡ p → Good x n (into_place x (chunk x n) (offset x n) p)
  place_good Absent e = absent_good i e
  place_good (Sparse r l) e = sparse_good r l e
  place_good (Dense q) e = dense_good i q e

  insert_good : Good x n (insert_plan x (chunk x n) (offset x n))
  insert_good = subst (Good x n) (sym (plan_at i.follows (chunk x n) (offset x n))) (place_good (placed x n) refl)

  -- ---- a prepared insert

  abbrev Prepared : InsertPlan → Type 0
  Prepared q = Says x (pos n) (prepared_answer (state_of x) (pos n)) (acted x (chunk x n) (offset x n) q)

  prepared_wanted : (p : Place) → placed x n ≡ p → prepared_answer (state_of x) (pos n) ≡ if_dense (kind_of p) (Ok (cond (holds x n) false true))
  unfolding prepared_answer
  prepared_wanted p e =
      ap (λ (t : Bool). cond t (Err is_ranked) (if_dense (kinds x (chunk x n)) (Ok (cond (holds x n) false true)))) i.mode
      ∙ ap (λ (k : Kind). if_dense k (Ok (cond (holds x n) false true))) (kind_of_law i p e)

  prepared_if : (q : ℕ) → placed x n ≡ Dense q → (b : Bool) → is_set (page_part (head x) x.pages q) (offset x n) ≡ b → Prepared (cond b (Ok Known) (Ok (Mark q)))
  prepared_if q e true s =
      let h = holds_of i (Dense q) e ∙ s in
      known_member i.follows n (prepared_answer (state_of x) (pos n)) h (prepared_wanted (Dense q) e ∙ ap (λ (b : Bool). Ok (cond b false true)) h)
  prepared_if q e false s =
      let h = holds_of i (Dense q) e ∙ s in
      mark_good i q e (prepared_answer (state_of x) (pos n)) (prepared_wanted (Dense q) e ∙ ap (λ (b : Bool). Ok (cond b false true)) h)

  prepared_place : (p : Place) → placed x n ≡ p → Prepared (into_dense x (offset x n) p)
  prepared_place Absent e = refuses x i.follows (pos n) (prepared_answer (state_of x) (pos n)) not_prepared (prepared_wanted Absent e)
  prepared_place (Sparse r l) e = refuses x i.follows (pos n) (prepared_answer (state_of x) (pos n)) not_prepared (prepared_wanted (Sparse r l) e)
  prepared_place (Dense q) e = prepared_if q e (is_set (page_part (head x) x.pages q) (offset x n)) refl

  prepared_good : Prepared (prepared_plan x (chunk x n) (offset x n))
  prepared_good = subst Prepared (sym (prepared_at_law i.follows (chunk x n) (offset x n))) (prepared_place (placed x n) refl)

-- ---- the calls

module _ {x : Mem} (w : Follows x) where
  -- 4 where a ranked set is to say so, else what an open one does
  opened : (z : ℤ) (wanted : Truth) (t : Told) → (ranked x ≡ true → wanted ≡ Err is_ranked) → (ranked x ≡ false → Says x z wanted t)
      → Says x z wanted (if_open x t)
  opened z wanted t r f = subst (Says x z wanted) (sym (if_open_law w t)) (go (ranked x) refl)
    where
      go : (b : Bool) → ranked x ≡ b → Says x z wanted (cond b (told (Err is_ranked) x) t)
      go true e = refuses x w z wanted is_ranked (r e)
      go false e = f e

  into : (n : ℕ) → SFits w64 (pos n) → ranked x ≡ false → Into x n
  into n f e = record { follows = w; mode = e; small = pos_below n f }

  -- a ranked set refuses 4
  new_ranked : (z : ℤ) → ranked x ≡ true → new_answer (state_of x) z ≡ Err is_ranked
  unfolding new_answer
  new_ranked (pos n) e = ap (λ (t : Bool). cond t (Err is_ranked) (cond (holds x n) (Ok false) (verdict (head x) (after x n) (Ok true)))) e
  new_ranked (negsuc n) e = ap (λ (t : Bool). cond t (Err is_ranked) (Ok false)) e

  new_negative : (n : ℕ) → ranked x ≡ false → new_answer (state_of x) (negsuc n) ≡ Ok false
  unfolding new_answer
  new_negative n e = ap (λ (t : Bool). cond t (Err is_ranked) (Ok false)) e

  pub insert_says : (z : ℤ) → SFits w64 z → Inserts x z (new_answer (state_of x) z) (insert_by x z).answer (insert_by x z).after
  unfolding insert_by
  insert_says (pos n) f =
      opened (pos n) (new_answer (state_of x) (pos n)) (insert_at x (Some (chunk x n, offset x n))) (new_ranked (pos n)) (λ e. insert_good (into n f e))
  insert_says (negsuc n) f =
      opened (negsuc n) (new_answer (state_of x) (negsuc n)) (insert_at x None) (new_ranked (negsuc n))
      (λ e. known_negative w n (new_answer (state_of x) (negsuc n)) (new_negative n e))

  prepared_ranked : (z : ℤ) → ranked x ≡ true → prepared_answer (state_of x) z ≡ Err is_ranked
  unfolding prepared_answer
  prepared_ranked (pos n) e = ap (λ (t : Bool). cond t (Err is_ranked) (if_dense (kinds x (chunk x n)) (Ok (cond (holds x n) false true)))) e
  prepared_ranked (negsuc n) e = ap (λ (t : Bool). cond t (Err is_ranked) (Err not_prepared)) e

  prepared_negative : (n : ℕ) → ranked x ≡ false → prepared_answer (state_of x) (negsuc n) ≡ Err not_prepared
  unfolding prepared_answer
  prepared_negative n e = ap (λ (t : Bool). cond t (Err is_ranked) (Err not_prepared)) e

  pub prepared_says : (z : ℤ) → SFits w64 z → Inserts x z (prepared_answer (state_of x) z) (prepared_by x z).answer (prepared_by x z).after
  unfolding prepared_by
  prepared_says (pos n) f =
      opened (pos n) (prepared_answer (state_of x) (pos n)) (prepared_at x (Some (chunk x n, offset x n))) (prepared_ranked (pos n))
      (λ e. prepared_good (into n f e))
  prepared_says (negsuc n) f =
      opened (negsuc n) (prepared_answer (state_of x) (negsuc n)) (prepared_at x None) (prepared_ranked (negsuc n))
      (λ e. refuses x w (negsuc n) (prepared_answer (state_of x) (negsuc n)) not_prepared (prepared_negative n e))

-- Union of two memories that follow the layout does what document 01 says: the answer, and both sets after it. Assumes nothing.
use mathlib.Core.Path.{◌≡◌, refl, ap₂, ◌∙◌}
use mathlib.Core.Bool.{Bool, true, false, cond, ◌&&◌}
use Prim.Native.Nat.{ℕ}
use Rattle.document.specs.State.{empty}
use Rattle.document.specs.Insert.{done}
use Rattle.document.specs.Refusals.{not_laid_out, is_ranked, sizes_differ}
use Rattle.document.specs.Room.{verdict}
use Rattle.document.specs.Union.{Join, merge_from, merge, union_map, same_shape, barred, union_answer, united, leftover}
use Rattle.layout.specs.Mem.{Mem}
use Rattle.layout.specs.Sizes.{head}
use Rattle.layout.specs.Meaning.{state_of}
use Rattle.layout.specs.Follows.{Follows}
use Rattle.layout.specs.SetUp.{fresh}
use Rattle.layout_laws.proofs.Fresh.{head_fresh, fresh_follows, fresh_holds, fresh_kinds, fresh_open}
use Rattle.layout_laws.proofs.Walked.{follows_walked}
use Rattle.unions.specs.Union.{Met, judged, barred_by, left_by, met_if, union_plan, union_by}
use Rattle.unions.specs.Takes.{TakesDenseFirst}
use Rattle.unions.proofs.Judged.{judged_is, union_room}
use Rattle.unions.proofs.Accepted.{accepted}
use Rattle.unions.proofs.Kept.{union_kept}
use Rattle.unions.proofs.Takes.{union_takes}
use Rattle.document.specs.Results.{Outcome}
use Rattle.std.specs.Prelude.{Err, Ok}
use Rattle.document.specs.declared.refusal.Refusal.{Refusal}

-- a call of union from memories x and y, with its answer and both memories after it
pub record Unites (x y : Mem) (j : Join) (m : Met) : Type 0 where
  pub answer : m.answer ≡ union_answer (state_of x) (state_of y) j
  pub follows : Follows m.here
  pub source_follows : Follows m.there
  pub state : state_of m.here ≡ united (state_of x) (state_of y) m.answer
  pub source_state : state_of m.there ≡ leftover (state_of y) j m.answer
  pub refused : (n : Refusal) → m.answer ≡ Err n → (m.here ≡ x) × (m.there ≡ y)
  pub takes : m.answer ≡ Ok tt → TakesDenseFirst x m.here

module _ {x y : Mem} (w : Follows x) (v : Follows y) where
  -- ---- the answer

  barred_is : (j : Join) → barred_by x y j ≡ barred (state_of x) (state_of y) j
  barred_is merge_from = refl
  barred_is merge = refl

  abbrev wanted : Outcome
  wanted = done (verdict (head x) (union_map (state_of x) (state_of y)) (Ok true))

  shape_is : (b : Bool) → same_shape (head x) (head y) ≡ b → cond b (judged x y) (Err sizes_differ) ≡ cond b wanted (Err sizes_differ)
  shape_is true e = judged_is w v e
  shape_is false e = refl

  plan_is : (j : Join) → union_plan x y j ≡ union_answer (state_of x) (state_of y) j
  unfolding union_plan union_answer
  plan_is j =
      let go_on = cond (barred_by x y j) (Err is_ranked) (cond (same_shape (head x) (head y)) (judged x y) (Err sizes_differ)) in
      ap₂ (λ (a b : Bool). cond (a && b) go_on (Err not_laid_out)) (follows_walked w) (follows_walked v)
      ∙ ap₂ (λ (a : Bool) (i : Outcome). cond a (Err is_ranked) i) (barred_is j) (shape_is (same_shape (head x) (head y)) refl)

  -- ---- the source after an accepted call

  left_follows : (j : Join) → Follows (left_by y j)
  left_follows merge_from = v
  left_follows merge = fresh_follows (head y) y v.sizes v.room

  emptied : state_of (fresh (head y) y) ≡ empty (head y)
  emptied = λ i. record {
    sizes = head_fresh (head y) y i;
    mode = fresh_open (head y) y v.sizes v.room i;
    members = λ (n : ℕ). fresh_holds (head y) y v.sizes v.room n i;
    map = λ (c : ℕ). fresh_kinds (head y) y v.sizes v.room c i;
  }

  left_state : (j : Join) → state_of (left_by y j) ≡ leftover (state_of y) j (Ok tt)
  left_state merge_from = refl
  left_state merge = emptied

  left_refused : (j : Join) (n : Refusal) → state_of y ≡ leftover (state_of y) j (Err n)
  left_refused merge_from n = refl
  left_refused merge n = refl

  -- ---- the call

  by_plan : (j : Join) (a : Outcome) → union_plan x y j ≡ a → a ≡ union_answer (state_of x) (state_of y) j → Unites x y j (met_if x y j a)
  by_plan j (Ok tt) e is =
      let f = accepted x y j e in
      let r = union_room w v f.same f.room in
      let k = union_kept w v f.mode f.same r.0 r.1 r.2 in
      record {
        answer = is;
        follows = k.0;
        source_follows = left_follows j;
        state = k.1;
        source_state = left_state j;
        refused = λ n q. absurd cc;
        takes = λ q. union_takes w v f.mode f.same r.0 r.1 r.2;
      }
  by_plan j (Err n) e is =
      record {
        answer = is;
        follows = w;
        source_follows = v;
        state = refl;
        source_state = left_refused j n;
        refused = λ i q. (refl, refl);
        takes = λ q. absurd cc;
      }

  pub union_says : (j : Join) → Unites x y j (union_by x y j)
  unfolding union_by
  union_says j = by_plan j (union_plan x y j) refl (plan_is j)

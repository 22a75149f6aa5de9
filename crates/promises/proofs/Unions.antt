-- A refused union changes nothing, on any two memories; an accepted one takes the lowest that is free, and has the members of either set. Assumes nothing.
use mathlib.Core.Path.{◌≡◌, refl, sym, ap, ap₂, subst, ◌∙◌, fun_ext}
use mathlib.Core.Bool.{Bool, true, false, cond, ◌&&◌, ◌||◌}
use Prim.Native.Nat.{ℕ}
use borrow.Author.Tests.{eq-eqb}
use Rattle.sums.specs.Ids.{Ids}
use Rattle.document.specs.State.{Kind, State, empty}
use Rattle.document.specs.Refusals.{is_ranked, sizes_differ}
use Rattle.document.specs.Room.{verdict}
use Rattle.document.specs.Insert.{done}
use Rattle.document.specs.Answers.{in_mode}
use Rattle.document.specs.Union.{Join, either, union_map, same_shape, barred, union_answer, united}
use Rattle.document.proofs.Unions as law
use Rattle.document.specs.declared.sizes.Sizes.{Sizes}
use Rattle.layout.specs.Mem.{Mem}
use Rattle.layout.specs.Sizes.{head}
use Rattle.layout.specs.Meaning.{holds, kinds, state_of}
use Rattle.layout.specs.Follows.{Follows}
use Rattle.calls.proofs.Verdicts.{verdict_room, overflows_fit, sparses_fit, denses_fit}
use Rattle.contracts.specs.Does.{Joins}
use Rattle.unions.specs.Union.{Met, met, met_if, union_plan, union_by}
use Rattle.unions.specs.Takes.{TakesDenseFirst}
use Rattle.unions.proofs.Said.{union_says}
use Rattle.document.specs.Results.{Outcome}
use Rattle.std.specs.Prelude.{Err, Ok}
use Rattle.document.specs.declared.refusal.Refusal.{Refusal}

differ : {n : Refusal} → ◌≡◌ {A = Outcome} (Err n) (Ok tt) → ⊥
differ e = cc

module _ (x y : Mem) (j : Join) where
  stays_by : (a : Outcome) (n : Refusal) {u v : Mem} → met (Err n) u v ≡ met_if x y j a → (u ≡ x) × (v ≡ y)
  stays_by (Ok tt) n e = absurd (differ (ap (λ (m : Met). m.answer) e))
  stays_by (Err k) n e = (ap (λ (m : Met). m.here) e, ap (λ (m : Met). m.there) e)

  pub union_stays : (n : Refusal) {u v : Mem} → met (Err n) u v ≡ union_by x y j → (u ≡ x) × (v ≡ y)
  unfolding union_by
  union_stays n e = stays_by (union_plan x y j) n e

  pub union_lowest : Follows x → Follows y → {u v : Mem} → met (Ok tt) u v ≡ union_by x y j → TakesDenseFirst x u
  union_lowest w s e =
      subst (TakesDenseFirst x) (sym (ap (λ (m : Met). m.here) e)) ((union_says w s j).takes (sym (ap (λ (m : Met). m.answer) e)))

-- ---- members and map, of memories that follow the layout

module _ (x y : Mem) (w : Follows x) (s : Follows y) where
  -- the members of either, whatever the kinds
  pub union_members : (j : Join) (u v : Mem) → Joins x y j (Ok tt) u v → (n : ℕ) → holds u n ≡ either (holds x) (holds y) n
  union_members j u v d n = ap (λ (q : State). q.members n) (d.says w s).state

  -- so it doesn't matter which of the two takes the other in
  pub union_commutes : (j i : Join) (u v p q : Mem) → Joins x y j (Ok tt) u v → Joins y x i (Ok tt) p q → (n : ℕ) → holds u n ≡ holds p n
  union_commutes j i u v p q d e n =
      union_members j u v d n ∙ law.union_commutes (state_of x) (state_of y) n ∙ sym (ap (λ (q : State). q.members n) (e.says s w).state)

  -- and a set with the same members adds none
  pub union_idempotent : ((n : ℕ) → holds y n ≡ holds x n) → (j : Join) (u v : Mem) → Joins x y j (Ok tt) u v → (n : ℕ) → holds u n ≡ holds x n
  unfolding either
  union_idempotent e j u v d n = union_members j u v d n ∙ ap (λ (b : Bool). holds x n || b) (e n) ∙ law.union_idempotent (state_of x) n

  -- ---- into an empty set of the same sizes

  abbrev h : Sizes
  h = head y

  abbrev map : ℕ → Kind
  map = union_map (empty h) (state_of y)

  map_same : map ≡ kinds y
  map_same = fun_ext (λ (c : ℕ). law.union_empty_map h (state_of y) c)

  fits_in : (j : Join) → barred (empty h) (state_of y) j ≡ false → union_answer (empty h) (state_of y) j ≡ (Ok tt)
  unfolding union_answer
  fits_in j b =
      ap (λ (t : Bool). cond t (Err is_ranked) (cond (same_shape h h) (done (verdict h map (Ok true))) (Err sizes_differ))) b
      ∙ ap (λ (t : Bool). cond t (done (verdict h map (Ok true))) (Err sizes_differ)) (ap₂ ◌&&◌ (eq-eqb h.s h.s refl) (eq-eqb h.m h.m refl))
      ∙ ap (λ (k : ℕ → Kind). done (verdict h k (Ok true))) map_same
      ∙ ap done (verdict_room h (kinds y) (Ok true) (overflows_fit s) (sparses_fit s) (denses_fit s))

  copied : united (empty h) (state_of y) (Ok tt) ≡ in_mode (state_of y) false
  copied =
      ap₂ (λ (P : Ids) (k : ℕ → Kind). record { sizes = h; mode = false; members = P; map = k })
      (fun_ext (λ (n : ℕ). law.union_empty_members h (state_of y) n)) map_same

  -- where 4 is not given it is accepted, and gives the same members and the same map
  pub union_into_empty : state_of x ≡ empty h → (j : Join) → barred (state_of x) (state_of y) j ≡ false → (a : Outcome) (u v : Mem) → Joins x y j a u v
      → (a ≡ (Ok tt)) × (state_of u ≡ in_mode (state_of y) false)
  union_into_empty e j b a u v d =
      let r = d.says w s in
      let f : a ≡ (Ok tt) = r.said ∙ ap (λ (q : State). union_answer q (state_of y) j) e ∙ fits_in j (subst (λ (q : State). barred q (state_of y) j ≡ false) e b) in
      (f, r.state ∙ ap₂ (λ (q : State) (c : Outcome). united q (state_of y) c) e f ∙ copied)

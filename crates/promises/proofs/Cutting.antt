-- What planning's contract allows on ranked memory that follows the layout cuts the set that it stands for; spare boundaries stay on any. Assumes nothing.
use mathlib.Core.Path.{◌≡◌, sym, ap, subst, ◌∙◌}
use mathlib.Core.List.{List}
use mathlib.Core.Bool.{Bool, true, false, cond}
use Prim.Native.Nat.{ℕ, ◌*◌, ◌-◌, ◌≤◌}
use native.Mathlib.Omega.{arith}
use lib.IntN.{ℤ, pos}
use lib.ListN.{length, get_or}
use lib.Dec.{ltb, eqb}
use borrow.Author.Tests.{lt-ltb, le-ltb}
use Rattle.sums.specs.Ids.{Ids, total}
use Rattle.sums.specs.Cuts.{size, parts, held, Interval}
use Rattle.document.specs.State.{State}
use Rattle.document.specs.Plan.{plan_of, plan_answer, PlansFor}
use Rattle.document.specs.declared.plan.Plan.{Plan}
use Rattle.layout.specs.Mem.{Mem}
use Rattle.layout.specs.Sizes.{mode_at, total_at}
use Rattle.layout.specs.Tests.{walked}
use Rattle.cuts.specs.Plan.{bounds_to, Cut, cut, plan_by}
use Rattle.cuts.specs.Promise.{Plans}
use Rattle.cuts.proofs.Plans.{plan_spare}
use Rattle.intervals.proofs.Intervals.{plans_bounded, ids_part, span_part, ranks_part}
use Rattle.intervals.proofs.Demand.{spans_planned}
use Rattle.promises.specs.Cuts.{Cuts}
use Rattle.document.specs.Refusals.{is_open, no_room, not_laid_out}
use Rattle.document.specs.Results.{Planning}
use Rattle.std.specs.Prelude.{Err, Ok}

module _ (q : State) (S : ℕ) (bs : List ℤ) (a : Planning) (cs : List ℤ) (says : PlansFor q S bs a cs) (r : q.mode ≡ true) where
  abbrev P : Ids
  P = q.members

  answers : (b : Bool) → ltb (length bs) (parts (total P) S - 1) ≡ b → a ≡ cond b (Err no_room) (Ok (plan_of (total P) S))
  unfolding plan_answer
  answers b e =
      says.answer
      ∙ ap (λ (m : Bool). cond m (cond (ltb (length bs) (parts (total P) S - 1)) (Err no_room) (Ok (plan_of (total P) S))) (Err is_open)) r
      ∙ ap (λ (m : Bool). cond m (Err no_room) (Ok (plan_of (total P) S))) e

  module _ (room : parts (total P) S - 1 ≤ length bs) where
    made_is : a ≡ Ok (plan_of (total P) S)
    made_is = answers _ (le-ltb (length bs) (parts (total P) S - 1) room)

    plans : PlansFor q S bs (Ok (plan_of (total P) S)) cs
    plans = subst (λ (b : Planning). PlansFor q S bs b cs) made_is says

  pub cut_set : Cuts P S bs a cs
  cut_set = record {
    refuses = λ l. let e = answers _ (lt-ltb (length bs) (parts (total P) S - 1) l) in (e, says.refused no_room e);
    makes = made_is;
    ids = λ l. ids_part P S cs (plans_bounded (plans l));
    cuts = λ l. spans_planned (plans l);
    counts = λ l k m.
        ranks_part P S k m ∙ ap (λ (i : Interval). Ok (record { first = k * size S; count = held P i })) (sym (span_part P S cs (plans_bounded (plans l)) k m));
  }

-- ---- on any memory

module _ (x : Mem) (S : ℕ) (bs : List ℤ) (p : Plan) where
  abbrev total_of : ℕ
  total_of = total_at x.table

  made_by : (a b c : Bool) (ds : List ℤ) →
      (cond a (cond b (cond c (cut (Err no_room) bs) (cut (Ok (plan_of total_of S)) ds)) (cut (Err is_open) bs)) (cut (Err not_laid_out) bs)).answer ≡ Ok p
      → p.partitions ≡ parts total_of S
  made_by false b c ds e = absurd (let z : ◌≡◌ {A = ℕ} 0 1 = cc in omega arith)
  made_by true false c ds e = absurd (let z : ◌≡◌ {A = ℕ} 0 1 = cc in omega arith)
  made_by true true true ds e = absurd (let z : ◌≡◌ {A = ℕ} 0 1 = cc in omega arith)
  made_by true true false ds e = let h : p ≡ plan_of total_of S = cc in ap (λ (q : Plan). q.partitions) h

  made_parts : (plan_by x S bs).answer ≡ Ok p → p.partitions ≡ parts total_of S
  unfolding plan_by
  made_parts e =
      made_by (walked x) (eqb (mode_at x.table) 1) (ltb (length bs) (parts total_of S - 1)) (bounds_to x S bs (parts total_of S - 1)) e

  -- boundaries past the last stay
  pub spare_bounds : (cs : List ℤ) → Plans x S bs (Ok p) cs → (k : ℕ) → p.partitions - 1 ≤ k → get_or cs k (pos 0) ≡ get_or bs k (pos 0)
  spare_bounds cs h k l =
      let q = made_parts (sym (ap (λ (c : Cut). c.answer) h.by)) in
      ap (λ (c : Cut). get_or c.bounds k (pos 0)) h.by ∙ plan_spare x S bs k (subst (λ (n : ℕ). n - 1 ≤ k) q l)

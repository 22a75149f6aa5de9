-- Demand 3, of the intervals that `ids` answers after a planning. Assumes nothing.
use mathlib.Core.Path.{◌≡◌, sym, ap, subst, ◌∙◌}
use mathlib.Core.List.{List}
use Prim.Native.Nat.{ℕ, ◌≤◌, ◌<◌}
use lib.IntN.{ℤ}
use Rattle.sums.specs.Ids.{Ids, total}
use Rattle.sums.specs.Cuts.{size, parts, Interval, inside, part, held, Cutting}
use Rattle.sums.specs.Planned.{Planned}
use Rattle.sums.proofs.Theorems.{planned}
use Rattle.document.specs.State.{State}
use Rattle.document.specs.Plan.{plan_of, PlansFor}
use Rattle.document.specs.Spans.{interval_of, span_at}
use Rattle.intervals.proofs.Intervals.{span_part, plans_bounded}
use Rattle.std.specs.Prelude.{Ok}

-- n intervals that are those of a plan are a plan
module _ (P : Ids) (slots n : ℕ) (cut other : ℕ → Interval) (same : (k : ℕ) → k < n → cut k ≡ other k) where
  within : (z : ℤ) (k : ℕ) → k < n → inside z (cut k) ≡ inside z (other k)
  within z k l = ap (inside z) (same k l)

  cutting_same : Cutting P slots n other → Cutting P slots n cut
  cutting_same c = record {
    covers = λ z f. let o = c.covers z f in (o.0, o.1, within z o.0 o.1 ∙ o.2);
    small = λ k l. subst (λ (i : Interval). held P i ≤ size slots) (sym (same k l)) (c.small k l);
  }

  planned_same : Planned P slots n other → Planned P slots n cut
  planned_same p = record {
    covers = λ z f. let o = p.covers z f in (o.0, o.1, within z o.0 o.1 ∙ o.2, λ j l h. o.3 j l (sym (within z j l) ∙ h));
    members = λ z f e k l. rw (same k l) (p.members z f e k l);
    counts = λ k l. ap (held P) (same k l) ∙ p.counts k l;
    fewest = p.fewest;
    cutting = cutting_same p.cutting;
  }

-- whatever boundaries a planning left
pub spans_planned : {q : State} {slots : ℕ} {bs cs : List ℤ} → PlansFor q slots bs (Ok (plan_of (total q.members) slots)) cs
    → Planned q.members slots (parts (total q.members) slots) (λ (k : ℕ). interval_of (span_at (plan_of (total q.members) slots) cs k))
spans_planned {q} {slots} {bs} {cs} p =
    let P = q.members in
    let n = parts (total P) slots in
    planned_same P slots n (λ (k : ℕ). interval_of (span_at (plan_of (total P) slots) cs k)) (part P slots) (span_part P slots cs (plans_bounded p)) (planned P slots)

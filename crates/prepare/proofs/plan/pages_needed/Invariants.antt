-- `k` is the count up to `e`. Assumes nothing.
use mathlib.Core.Path.{◌≡◌}
use Prim.Native.Nat.{◌≤◌}
use Rattle.sums.specs.Ids.{count}
use Rattle.prepare.proofs.PreparePlans.{dense_past}
use Rattle.prepare.proofs.plan.pages_needed.Given as goal

abbrev pub invariant-loop-e : goal.invariant-loop-e
invariant-loop-e l = (l.k ≤ l.e) × (l.k ≡ count (dense_past l.h l.table l.c) l.e)

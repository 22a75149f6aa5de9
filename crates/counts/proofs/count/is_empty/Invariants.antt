-- What the run has found so far. Assumes nothing.
use Prim.Native.Nat.{◌-◌, ◌≤◌}
use Rattle.layout.specs.Mem.{mem}
use Rattle.counts.proofs.Totals.{EmptyTo}
use Rattle.counts.proofs.count.is_empty.Given as goal

abbrev pub invariant-loop-e : goal.invariant-loop-e
invariant-loop-e l = (l.e ≤ l.n) × EmptyTo (mem l.pages l.rows l.blocks l.table) l.e l.empty

abbrev pub decreases-loop-e : goal.decreases-loop-e
decreases-loop-e l = l.n - l.e

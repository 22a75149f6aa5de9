-- What the run has found so far. Assumes nothing.
use Prim.Native.Nat.{◌-◌, ◌≤◌}
use Rattle.layout.specs.Mem.{mem}
use Rattle.counts.proofs.Totals.{LenTo}
use Rattle.counts.proofs.count.len.Given as goal

abbrev pub invariant-loop-e : goal.invariant-loop-e
invariant-loop-e l = (l.e ≤ l.n) × LenTo (mem l.pages l.rows l.blocks l.table) l.e l.members

abbrev pub decreases-loop-e : goal.decreases-loop-e
decreases-loop-e l = l.n - l.e

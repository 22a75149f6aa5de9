-- What was seen is of the entries before e: one more is looked at, or eight that change nothing. Assumes nothing.
use Prim.Native.Nat.{◌-◌, ◌≤◌}
use Rattle.layout_walk.specs.Seen.{SeenTo}
use Rattle.layout_walk.proofs.walk.pass.Given as goal

abbrev pub invariant-loop-e : goal.invariant-loop-e
invariant-loop-e l = (l.e ≤ l.n) × SeenTo l.h l.table l.e l.ok l.rows l.pages l.rise l.prefix

abbrev pub decreases-loop-e : goal.decreases-loop-e
decreases-loop-e l = l.n - l.e

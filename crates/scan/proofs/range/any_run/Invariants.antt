-- What the entries from i on answer is what all of them do. Assumes nothing.
use mathlib.Core.Path.{◌≡◌}
use Prim.Native.Nat.{◌-◌}
use Rattle.layout.specs.Mem.{mem}
use Rattle.calls.specs.Range.{any_run}
use Rattle.scan.proofs.range.any_run.Given as goal

abbrev pub invariant-loop-i : goal.invariant-loop-i
invariant-loop-i l = let x = mem l.pages l.rows l.blocks l.table in any_run x l.lo l.hi (l.n - l.i) l.i ≡ any_run x l.lo l.hi (l.n - l.e) l.e

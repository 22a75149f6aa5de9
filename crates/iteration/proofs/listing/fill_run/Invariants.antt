-- What filling from entry i on leaves is what filling from the first does; the record is as long as it was. Assumes nothing.
use mathlib.Core.Path.{◌≡◌}
use Prim.Native.Nat.{◌-◌}
use lib.ListN.{length}
use Rattle.layout.specs.Mem.{mem}
use Rattle.calls.specs.Iteration.{fill_run}
use Rattle.iteration.proofs.listing.fill_run.Given as goal

abbrev pub invariant-loop-i : goal.invariant-loop-i
invariant-loop-i l =
    let x = mem l.pages l.rows l.blocks l.table in
    (fill_run x l.lo (l.n - l.i) l.i l.out l.k ≡ fill_run x l.lo (l.n - l.e) l.e l.initial.out 0) × (length l.out ≡ length l.initial.out)

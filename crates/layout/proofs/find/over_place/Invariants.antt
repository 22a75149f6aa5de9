-- The loop keeps `Halving`: what is left of the search gives the whole search's answer. The measure is the number of entries left.
use Prim.Native.Nat.{◌-◌}
use Rattle.layout.proofs.Finds.{Halving}
use Rattle.layout.proofs.find.over_place.Given as goal

abbrev pub invariant-loop-lo : goal.invariant-loop-lo
invariant-loop-lo l = Halving l.table l.a l.n l.c l.lo l.hi

abbrev pub decreases-loop-lo : goal.decreases-loop-lo
decreases-loop-lo l = l.hi - l.lo

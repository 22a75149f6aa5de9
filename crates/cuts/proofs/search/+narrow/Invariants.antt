-- The measure is high less low. A call's answer is that of the half that it goes on with.
use Prim.Native.Nat.{◌-◌}
use Rattle.cuts.proofs.search.+narrow.Given as goal

abbrev pub decreases-narrow : goal.decreases-narrow
decreases-narrow l = l.hi - l.lo

-- The answer so far is of the elements passed. Assumes nothing.
use mathlib.Core.Path.{◌≡◌}
use Prim.Native.Nat.{ℕ, ◌+◌}
use lib.ListN.{get_or}
use Rattle.sums.specs.Rules.{all_to}
use Rattle.layout_walk.proofs.zeros.all_are.Given as goal

abbrev pub invariant-loop-x : goal.invariant-loop-x
invariant-loop-x g l = l.ok ≡ all_to (λ (i : ℕ). g.T.PartialEq.eq (get_or l.t (l.a + i) l.v) l.v) l.x-index

-- `ok` says that the words up to the i-th are v. Assumes nothing.
use Prim.Native.Nat.{ℕ, ◌+◌, ◌*◌, ◌-◌, ◌≤◌}
use mathlib.Core.Path.{◌≡◌}
use lib.ListN.{get_or}
use lib.Dec.{eqb}
use Rattle.sums.specs.Rules.{all_to}
use Rattle.layout.proofs.entry.eight_are.Given as goal

abbrev pub invariant-loop-i : goal.invariant-loop-i
invariant-loop-i l = (l.i ≤ 8) × (l.ok ≡ all_to (λ (j : ℕ). eqb (get_or l.table (l.a + 2 * j) 0) l.v) l.i)

abbrev pub decreases-loop-i : goal.decreases-loop-i
decreases-loop-i l = 8 - l.i

-- `k` is the count up to `i`. Assumes nothing.
use Prim.Native.Nat.{ℕ, ◌+◌, ◌≤◌}
use mathlib.Core.Path.{◌≡◌}
use mathlib.Core.Bool.{not}
use lib.ListN.{get_or}
use lib.Dec.{eqb}
use Rattle.sums.specs.Ids.{count}
use Rattle.layout_walk.proofs.owners.owned_count.Given as goal

abbrev pub invariant-loop-i : goal.invariant-loop-i
invariant-loop-i l = (l.k ≤ l.i) × (l.k ≡ count (λ (j : ℕ). not (eqb (get_or l.table (l.a + j) 0) 0)) l.i)

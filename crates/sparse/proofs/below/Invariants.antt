-- `sparse::below` meets its contract. What is left gives the whole search's answer. The measure is the number of places left.
use Prim.Native.Nat.{◌+◌, ◌≤◌}
use mathlib.Core.Path.{◌≡◌}
use Rattle.sparse.specs.Search.{lower_in, lower_of}
use Rattle.sparse.proofs.below.Given as goal

abbrev pub invariant-loop-left : goal.invariant-loop-left
invariant-loop-left l = record {
  some : 1 ≤ l.left.n;
  inside : l.left.lo + l.left.n ≤ l.len;
  same : lower_in l.left.n l.row l.off l.left.lo l.left.n ≡ lower_of l.row l.len l.off;
}

abbrev pub decreases-loop-left : goal.decreases-loop-left
decreases-loop-left l = l.left.n

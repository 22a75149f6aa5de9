-- `sparse::union_len` meets its contract. The steps made and the union of what is left have the length of the whole. The measure is what is left of both.
use Prim.Native.Nat.{◌+◌, ◌-◌, ◌≤◌}
use mathlib.Core.Path.{◌≡◌}
use lib.ListN.{length, drop}
use Rattle.sparse.specs.Union.{union}
use Rattle.sparse.proofs.union_len.Given as goal

abbrev pub invariant-loop-i : goal.invariant-loop-i
invariant-loop-i l = record {
  i_in : l.i ≤ length l.a;
  j_in : l.j ≤ length l.b;
  k_in : l.k ≤ l.i + l.j;
  same : l.k + length (union (drop l.i l.a) (drop l.j l.b)) ≡ length (union l.a l.b);
}

abbrev pub decreases-loop-i : goal.decreases-loop-i
decreases-loop-i l = length l.a - l.i + (length l.b - l.j)

-- `sparse::merge` meets its contract. The front made so far and the merge of what is left are the whole merge. The measure is what is left of both.
use Prim.Native.Nat.{◌+◌, ◌-◌, ◌≤◌}
use mathlib.Core.List.{◌++◌}
use mathlib.Core.Path.{◌≡◌}
use lib.ListN.{length, take, drop}
use Rattle.sparse.specs.Union.{merged}
use Rattle.sparse.proofs.merge.Given as goal

abbrev pub invariant-loop-i : goal.invariant-loop-i
invariant-loop-i l = record {
  i_in : l.i ≤ length l.a;
  j_in : l.j ≤ length l.b;
  k_in : l.k ≤ l.i + l.j;
  made : (merged l.a l.b).front ≡ take l.k l.out ++ (merged (drop l.i l.a) (drop l.j l.b)).front;
  kept : (merged l.a l.b).rest ≡ (merged (drop l.i l.a) (drop l.j l.b)).rest;
  past : drop l.k l.out ≡ drop l.k l.initial.out;
}

abbrev pub decreases-loop-i : goal.decreases-loop-i
decreases-loop-i l = length l.a - l.i + (length l.b - l.j)

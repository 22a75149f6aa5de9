-- `sum` is what a set keeps of the members of the entries before `e`, and `ok` says that the prefixes up to `e` are such sums.
use Prim.Native.Nat.{◌*◌, ◌≤◌}
use mathlib.Core.Path.{◌≡◌}
use Rattle.sums.specs.Rules.{all_to}
use Rattle.sums.specs.Sums.{sum_to}
use Rattle.fullcheck.specs.Check.{size_of_entry, kept_if, prefix_is}
use Rattle.fullcheck.proofs.counts.ranks_are.Given as goal

abbrev pub invariant-loop-e : goal.invariant-loop-e
invariant-loop-e l = record {
  small : l.sum ≤ 33554432 * l.e;
  sum : l.sum ≡ kept_if l.ranked (sum_to (size_of_entry l.h l.pages l.table) l.e);
  ok : l.ok ≡ all_to (prefix_is l.h l.pages l.table) l.e;
}

-- `sum` is what a set keeps of the bits of the blocks before `b`, and `ok` says that the counts up to `b` are such.
use Prim.Native.Nat.{◌*◌, ◌≤◌}
use mathlib.Core.Path.{◌≡◌}
use Rattle.sums.specs.Rules.{all_to}
use Rattle.fullcheck.specs.Check.{kept_if, block_is}
use Rattle.dense.specs.Bits.{bits_to}
use Rattle.fullcheck.proofs.blocks.page_blocks.Given as goal

abbrev pub invariant-loop-b : goal.invariant-loop-b
invariant-loop-b l = record {
  small : l.sum ≤ 512 * l.b;
  sum : l.sum ≡ kept_if l.ranked (bits_to l.page (512 * l.b));
  ok : l.ok ≡ all_to (block_is l.page l.blocks l.ranked l.a) l.b;
}

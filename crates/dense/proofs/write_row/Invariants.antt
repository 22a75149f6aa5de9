-- Invariant: the words are those with the row's offsets so far set.
use mathlib.Core.Path.{◌≡◌}
use Prim.Native.Nat.{◌^◌}
use Rattle.dense.specs.Bits.{with_row}
use Rattle.dense.proofs.write_row.Given as goal

abbrev pub invariant-loop-off : goal.invariant-loop-off
invariant-loop-off l = l.words ≡ with_row l.fn.words l.row (2 ^ l.s) l.off-index

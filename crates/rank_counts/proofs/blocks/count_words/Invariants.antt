-- Blocks passed are counted, and the sum has their members. Assumes nothing.
use mathlib.Core.Path.{◌≡◌}
use Prim.Native.Nat.{◌*◌}
use Rattle.dense.specs.Bits.{bits_to}
use Rattle.rank_counts.specs.Counts.{counted}
use Rattle.rank_counts.proofs.blocks.count_words.Given as goal

abbrev pub invariant-loop-b : goal.invariant-loop-b
invariant-loop-b l = (l.blocks ≡ counted l.words l.initial.blocks l.k l.b) × (l.sum ≡ bits_to l.words (512 * l.b))

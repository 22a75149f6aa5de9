-- Invariant: the words are those with the first i words of the source or-ed in.
use mathlib.Core.Path.{◌≡◌}
use lib.ListN.{take}
use Rattle.dense.specs.Bits.{or_words}
use Rattle.dense.proofs.words.or_into.Given as goal

abbrev pub invariant-loop-i : goal.invariant-loop-i
invariant-loop-i l = l.dst ≡ or_words l.fn.dst (take l.i l.src)

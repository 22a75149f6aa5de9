-- Invariant: the first i words are the source's.
use mathlib.Core.Path.{◌≡◌}
use lib.Seq.{paste}
use Rattle.dense.proofs.words.copy.Given as goal

abbrev pub invariant-loop-i : goal.invariant-loop-i
invariant-loop-i l = l.dst ≡ paste l.fn.dst 0 l.src l.i

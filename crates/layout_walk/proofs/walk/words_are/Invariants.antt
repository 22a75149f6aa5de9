-- The answer so far is the rule over the entries passed. Assumes nothing.
use mathlib.Core.Path.{◌≡◌}
use Rattle.sums.specs.Rules.{all_to}
use Rattle.layout.specs.Tests.{word_is}
use Rattle.layout_walk.proofs.walk.words_are.Given as goal

abbrev pub invariant-loop-j : goal.invariant-loop-j
invariant-loop-j l = l.ok ≡ all_to (word_is l.h l.table) l.j

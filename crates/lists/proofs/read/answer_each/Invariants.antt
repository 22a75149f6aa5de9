-- The first i answers are set.
use mathlib.Core.Path.{◌≡◌}
use lib.IntN.{ℤ}
use lib.ListN.{take}
use Rattle.lists.specs.Lists.{answered, Each}
use Rattle.lists.proofs.read.answer_each.Given as goal

abbrev pub invariant-loop-i : goal.invariant-loop-i
invariant-loop-i g l = (f : ℤ → g.row.A.Denot) → Each (goal.F-post g l.one) f → l.answers ≡ answered f (take l.i l.ids) l.initial.answers

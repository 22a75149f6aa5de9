-- Of the first r-index records the mark is the test's, and the rest are as they were. Assumes nothing.
use mathlib.Core.Path.{◌≡◌}
use mathlib.Core.Bool.{Bool}
use lib.IntN.{ℤ}
use Rattle.document.specs.RangeList.{marked_by}
use Rattle.range_list.specs.Marks.{Tells}
use Rattle.range_list.proofs.Upto.{upto}
use Rattle.range_list.proofs.list.mark_by.Given as goal

abbrev pub invariant-loop-r : goal.invariant-loop-r
invariant-loop-r g l = (f : ℤ → ℤ → Bool) → Tells (goal.F-post g l.test) f → l.list ≡ upto (marked_by f) l.r-index l.initial.list

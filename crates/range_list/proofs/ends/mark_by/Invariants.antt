-- The first i marks are set. Assumes nothing.
use mathlib.Core.Path.{◌≡◌}
use mathlib.Core.Bool.{Bool}
use lib.IntN.{ℤ}
use lib.ListN.{take}
use Rattle.document.specs.RangeList.{marks_in}
use Rattle.range_list.specs.Marks.{Tells}
use Rattle.range_list.proofs.ends.mark_by.Given as goal

abbrev pub invariant-loop-i : goal.invariant-loop-i
invariant-loop-i g l = (f : ℤ → ℤ → Bool) → Tells (goal.F-post g l.test) f → l.marks ≡ marks_in f (take l.i l.lows) l.highs l.initial.marks

-- The loop keeps: the first i are copied. Assumes nothing.
use mathlib.Core.Path.{◌≡◌}
use Rattle.sparse.specs.Edit.{copied}
use Rattle.sparse.proofs.copy.Given as goal

abbrev pub invariant-loop-i : goal.invariant-loop-i
invariant-loop-i l = l.dst ≡ copied l.src l.initial.dst l.i

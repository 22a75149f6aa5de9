-- `ok` says that the entries up to `e` pass.
use mathlib.Core.Path.{◌≡◌}
use Rattle.sums.specs.Rules.{all_to}
use Rattle.fullcheck.specs.Check.{row_is}
use Rattle.fullcheck.proofs.rows.lists_are.Given as goal

abbrev pub invariant-loop-e : goal.invariant-loop-e
invariant-loop-e l = l.ok ≡ all_to (row_is l.h l.rows l.table) l.e

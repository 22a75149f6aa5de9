-- `ok` says that the rows up to `r` pass.
use mathlib.Core.Path.{◌≡◌}
use Rattle.sums.specs.Rules.{all_to}
use Rattle.fullcheck.specs.Check.{free_row_is}
use Rattle.fullcheck.proofs.rows.free_rows.Given as goal

abbrev pub invariant-loop-r : goal.invariant-loop-r
invariant-loop-r l = l.ok ≡ all_to (free_row_is l.h l.rows l.table) l.r

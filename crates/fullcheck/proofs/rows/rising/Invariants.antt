-- `ok` says that the offsets up to `i` pass.
use mathlib.Core.Path.{◌≡◌}
use Rattle.sums.specs.Rules.{all_to}
use Rattle.fullcheck.specs.Check.{offset_is}
use Rattle.fullcheck.proofs.rows.rising.Given as goal

abbrev pub invariant-loop-i : goal.invariant-loop-i
invariant-loop-i l = l.ok ≡ all_to (offset_is l.row l.u l.l) l.i

-- `ok` says that the pages up to `p` pass.
use mathlib.Core.Path.{◌≡◌}
use Rattle.sums.specs.Rules.{all_to}
use Rattle.fullcheck.specs.Check.{free_page_is}
use Rattle.fullcheck.proofs.pages.free_pages.Given as goal

abbrev pub invariant-loop-p : goal.invariant-loop-p
invariant-loop-p l = l.ok ≡ all_to (free_page_is l.h l.pages l.table) l.p

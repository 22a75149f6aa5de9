-- `ok` says that the pages up to `p` pass.
use mathlib.Core.Path.{◌≡◌}
use Rattle.sums.specs.Rules.{all_to}
use Rattle.fullcheck.specs.Check.{page_blocks}
use Rattle.fullcheck.proofs.blocks.blocks_are.Given as goal

abbrev pub invariant-loop-p : goal.invariant-loop-p
invariant-loop-p l = l.ok ≡ all_to (page_blocks l.h l.pages l.blocks l.ranked) l.p

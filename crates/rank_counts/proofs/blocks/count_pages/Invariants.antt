-- Pages passed are counted. Assumes nothing.
use mathlib.Core.Path.{◌≡◌}
use Rattle.ranks.specs.Form.{blocked_to}
use Rattle.rank_counts.proofs.blocks.count_pages.Given as goal

abbrev pub invariant-loop-p : goal.invariant-loop-p
invariant-loop-p l = l.blocks ≡ blocked_to l.h l.pages l.initial.blocks l.p

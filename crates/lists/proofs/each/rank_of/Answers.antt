-- By where the id lies.
use mathlib.Core.Path.{◌∙◌}
use Rattle.numbers.specs.Ids.{split_of}
use Rattle.numbers.proofs.Signs.{hop}
use Rattle.lists.proofs.Near.{lies_small, rank_negative}
use Rattle.lists.proofs.each.rank_of.Goals as goal

pub returns-in_default : goal.returns-in_default
returns-in_default c =
    let a = c.args in rank_negative c.requires.0 a.id c.requires.1 (c.in_default.ensures ∙ hop (split_of a.h.s) a.id c.ranges.id)

pub rank_in-requires : goal.rank_in-requires
rank_in-requires c =
    let a = c.args in (c.requires.0, c.requires.1, c.in-Some.ensures, (lies_small c.requires.0 a.id c.ranges.id _ _ (c.in-Some.ensures ∙ hop (split_of a.h.s) a.id c.ranges.id)).0)

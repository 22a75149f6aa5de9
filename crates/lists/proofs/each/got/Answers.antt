-- By where the id lies.
use mathlib.Core.Path.{◌∙◌}
use Rattle.numbers.specs.Ids.{split_of}
use Rattle.numbers.proofs.Signs.{hop}
use Rattle.lists.proofs.Near.{lies_small, got_negative}
use Rattle.lists.proofs.each.got.Goals as goal

pub returns-in_default : goal.returns-in_default
returns-in_default c = let a = c.args in got_negative c.requires a.id (c.in_default.ensures ∙ hop (split_of a.h.s) a.id c.ranges.id)

pub has-requires : goal.has-requires
has-requires c =
    let a = c.args in (c.requires, c.in-Some.ensures, (lies_small c.requires a.id c.ranges.id _ _ (c.in-Some.ensures ∙ hop (split_of a.h.s) a.id c.ranges.id)).0)

-- The part lies inside its pool.
use Rattle.lists.proofs.Near.{spot_within}
use Rattle.lists.proofs.each.far_has.Goals as goal

pub has-requires : goal.has-requires
has-requires c = spot_within c.requires.0 c.args.c c.args.o c.requires.2 _ c.far-q.ensures

-- By whether the chunk has a direct entry.
use Rattle.lists.proofs.Near.{rank_here}
use Rattle.lists.proofs.each.rank_in.Goals as goal

pub returns : goal.returns
returns c = rank_here c.requires.0 c.args.id c.args.c c.args.o c.requires.2 c.requires.1 _ _ c.placed.ensures c.unwrap_or-2.ensures

-- The prefix beside the entry, and the part.
use Rattle.lists.proofs.Near.{spot_block, seat_placed}
use Rattle.lists.proofs.each.placed.Goals as goal

pub below_in-requires : goal.below_in-requires
below_in-requires c = spot_block c.requires.0 c.args.c c.args.o c.requires.2 _ c.of_chunk-q.ensures

pub returns : goal.returns
returns c =
    seat_placed c.requires.0 c.args.c c.args.o c.requires.2 _ c.of_chunk-q.ensures c.requires.1 _ _ _ c.prefix_at.ensures
    c.below_in.ensures.0 c.after.ensures

-- By whether the chunk has a direct entry.
use mathlib.Core.Path.{refl}
use Rattle.lists.proofs.Near.{lies_small, spot_within, got_here}
use Rattle.lists.proofs.each.has.Goals as goal

pub returns-then-h-c : goal.returns-then-h-c
returns-then-h-c c = got_here c.requires.0 c.args.id c.args.c c.args.o c.requires.1 _ _ _ refl c.far_has.ensures c.unwrap_or.ensures

pub has-requires : goal.has-requires
has-requires c =
    spot_within c.requires.0 c.args.c c.args.o (lies_small c.requires.0 c.args.id c.ranges.id c.args.c c.args.o c.requires.1).1 _ c.of_chunk-q.ensures

pub returns : goal.returns
returns c = got_here c.requires.0 c.args.id c.args.c c.args.o c.requires.1 _ _ _ c.of_chunk-q.ensures c.has.ensures c.unwrap_or-2.ensures

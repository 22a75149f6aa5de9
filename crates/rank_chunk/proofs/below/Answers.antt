-- The part that the word names lies inside.
use mathlib.Core.Path.{sym, subst}
use lib.ListN.{length}
use Rattle.layout.specs.Mem.{mem}
use Rattle.rank_chunk.specs.Part.{HasBlock}
use Rattle.rank_chunk.proofs.Belows.{has_block}
use Rattle.rank_chunk.proofs.below.Goals as goal

pub below_in-requires : goal.below_in-requires
below_in-requires c =
    let a = c.args in
    let r = c.requires in
    subst (HasBlock (length a.pages.now) (length a.rows.now) a.o) (sym c.spot_of.ensures) (has_block (mem a.pages.now a.rows.now a.blocks.now a.table.now) a.o a.s a.w r.0 r.1 r.2 r.3)

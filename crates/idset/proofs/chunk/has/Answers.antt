-- The part that the word names is as wide as the sizes say. Assumes nothing.
use mathlib.Core.Path.{subst, sym}
use lib.ListN.{length}
use Rattle.layout.specs.Mem.{mem}
use Rattle.layout.specs.Part.{Within}
use Rattle.calls.proofs.Spots.{within_spot}
use Rattle.idset.proofs.chunk.has.Goals as goal

pub has-requires : goal.has-requires
has-requires c =
    let a = c.args in
    let r = c.requires in
    subst (Within (length a.pages.now) (length a.rows.now) _) (sym c.spot_of.ensures)
    (within_spot (mem a.pages.now a.rows.now a.blocks.now a.table.now) a.s _ _ r.0 r.1 r.2 r.4)

-- The part lies inside its pool.
use mathlib.Core.Path.{sym, subst}
use lib.ListN.{length}
use Rattle.layout.specs.Mem.{mem}
use Rattle.layout.specs.Part.{Within}
use Rattle.calls.proofs.Spots.{within_spot}
use Rattle.ranked.proofs.rank.rank_if_at.Goals as goal

pub has-requires : goal.has-requires
has-requires c =
    let a = c.args in
    let r = c.requires in
    subst (Within (length a.pages.now) (length a.rows.now) a.o) (sym c.spot_of.ensures) (within_spot (mem a.pages.now a.rows.now a.blocks.now a.table.now) a.s _ a.o r.0 r.1 r.2 r.4)

-- The row as a part of its pool, which becomes the union. Assumes nothing.
use lib.ListN.{length}
use Rattle.layout.specs.Places.{row_part}
use Rattle.layout.proofs.Parts.{slot_in}
use Rattle.merge_slots.proofs.Lent.{join_put}
use Rattle.merge_slots.proofs.row.join.Goals as goal

pub returns : goal.returns
returns c =
    let g = c.args in
    join_put g.rows.now g.h g.r c.row_at-a.result c.row_at-a.ensures (slot_in g.h.m g.h.r g.r (length g.rows.now) c.requires.1 c.requires.0.in_rows) (row_part g.g g.srows.now g.i) g.l g.k c.unite.result
    _ c.part.ensures c.unite.ensures.0 _ c.unite.ensures.1

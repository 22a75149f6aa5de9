-- The row as a part of the pool, zeros all of it. Assumes nothing.
use Rattle.layout.proofs.Parts.{slot_in}
use Rattle.steps.proofs.Lent.{free_put}
use lib.ListN.{length}
use Rattle.steps.proofs.turn.free_row.Goals as goal

pub returns : goal.returns
returns c =
    let a = c.args in
    free_put a.rows.now a.h a.r _ c.row_at-a.ensures (slot_in a.h.m a.h.r a.r (length a.rows.now) c.requires.1 c.requires.2) _ (c.fill.ensures.after (λ y e. e))

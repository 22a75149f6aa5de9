-- Two tests of one entry. Assumes nothing.
use Rattle.prepare.proofs.PreparePlans.{past_is}
use Rattle.prepare.proofs.plan.dense_past.Goals as goal

pub returns : goal.returns
returns c =
    let a = c.args in
    past_is a.h a.table.now a.c a.e _ _ _ c.chunk_at.ensures c.place_at.ensures c.has_page.ensures

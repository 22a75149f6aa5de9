-- The entries past c, and those from D to c. Assumes nothing.
use Rattle.prepare.proofs.PreparePlans.{over_is}
use Rattle.prepare.proofs.plan.over_needed.Goals as goal

pub returns : goal.returns
returns c =
    let a = c.args in
    over_is a.h a.table.now a.c _ _ _ c.over_count-n.ensures c.over_below-k.ensures.0 c.saturating_sub.ensures

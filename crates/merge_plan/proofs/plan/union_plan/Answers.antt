-- Both walks passed. Assumes nothing.
use Rattle.layout.specs.Mem.{mem}
use Rattle.merge_plan.proofs.Planning.{passed}
use Rattle.merge_plan.proofs.plan.union_plan.Goals as goal

pub plan_walked-requires : goal.plan_walked-requires
plan_walked-requires c =
    let a = c.args in
    (passed (mem a.pages.now a.rows.now a.blocks.now a.table.now) (cc), passed (mem a.spages.now a.srows.now a.sblocks.now a.stable.now) (cc))

-- The plan carried out is the call. Assumes nothing.
use mathlib.Core.Path.{refl}
use Rattle.std.proofs.lemmas.Result.{err_from_is_err_and}
use Rattle.document.specs.Union.{merge_from}
use Rattle.layout.specs.Mem.{mem}
use Rattle.merging.proofs.Unites.{plan_refused, plan_sound, plan_done}
use Rattle.merging.proofs.merge_from.Goals as goal

pub returns-in_err-union_plan : goal.returns-in_err-union_plan
returns-in_err-union_plan c =
    let a = c.args in
    let p = err_from_is_err_and c.from_residual.result c.from_residual.ensures.1 in
    rw (p.1, p.2)
    (plan_refused (mem a.pages.now a.rows.now a.blocks.now a.table.now) (mem a.spages.now a.srows.now a.sblocks.now a.stable.now) merge_from _ c.in_err-union_plan.ensures)

pub unite-requires : goal.unite-requires
unite-requires c =
    let a = c.args in
    plan_sound (mem a.pages.now a.rows.now a.blocks.now a.table.now) (mem a.spages.now a.srows.now a.sblocks.now a.stable.now) merge_from c.in_ok-union_plan.ensures

pub returns : goal.returns
returns c =
    let a = c.args in
    plan_done (mem a.pages.now a.rows.now a.blocks.now a.table.now) (mem a.spages.now a.srows.now a.sblocks.now a.stable.now) merge_from c.in_ok-union_plan.ensures _ _
    (c.unite.ensures a.blocks.now a.sblocks.now) refl

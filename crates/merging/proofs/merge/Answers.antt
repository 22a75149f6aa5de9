-- The plan carried out, then the source as set_up of its sizes leaves it. Assumes nothing.
use mathlib.Core.Path.{ap, ◌∙◌}
use Rattle.std.proofs.lemmas.Result.{err_from_is_err_and}
use Rattle.document.specs.Union.{merge}
use Rattle.document.specs.declared.sizes.Sizes.{Sizes}
use Rattle.layout.specs.Mem.{mem}
use Rattle.layout.specs.SetUp.{fresh}
use Rattle.merging.proofs.Unites.{plan_refused, plan_sound, source_room, plan_done}
use Rattle.merging.proofs.merge.Goals as goal

pub returns-in_err-union_plan : goal.returns-in_err-union_plan
returns-in_err-union_plan c =
    let a = c.args in
    let p = err_from_is_err_and c.from_residual.result c.from_residual.ensures.1 in
    rw (p.1, p.2)
    (plan_refused (mem a.pages.now a.rows.now a.blocks.now a.table.now) (mem a.spages.now a.srows.now a.sblocks.now a.stable.now) merge _ c.in_err-union_plan.ensures)

pub unite-requires : goal.unite-requires
unite-requires c =
    let a = c.args in
    plan_sound (mem a.pages.now a.rows.now a.blocks.now a.table.now) (mem a.spages.now a.srows.now a.sblocks.now a.stable.now) merge c.in_ok-union_plan.ensures

pub make_fresh-requires : goal.make_fresh-requires
make_fresh-requires c =
    let a = c.args in
    source_room (mem a.pages.now a.rows.now a.blocks.now a.table.now) (mem a.spages.now a.srows.now a.sblocks.now a.stable.now) merge c.in_ok-union_plan.ensures _ c.read-g.ensures

pub returns : goal.returns
returns c =
    let a = c.args in
    let y = mem a.spages.now a.srows.now a.sblocks.now a.stable.now in
    plan_done (mem a.pages.now a.rows.now a.blocks.now a.table.now) y merge c.in_ok-union_plan.ensures _ _
    (c.unite.ensures a.blocks.now a.sblocks.now) (c.make_fresh.ensures ∙ ap (λ (h : Sizes). fresh h y) c.read-g.ensures)

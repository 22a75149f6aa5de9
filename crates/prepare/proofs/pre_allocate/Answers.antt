-- The plan carried out is the call. Assumes nothing.
use mathlib.Core.Path.{◌∙◌, ap}
use Rattle.std.specs.Prelude.{Ok}
use Rattle.std.proofs.lemmas.Result.{err_from_is_err_and}
use Rattle.numbers.proofs.Signs.{hop}
use Rattle.layout.specs.Mem.{mem}
use Rattle.layout.specs.SetUp.{did}
use Rattle.prepare.specs.PreparePlan.{plan_prepare}
use Rattle.prepare.proofs.PreparePlans.{plan_carried, made_sound, prepare_does}
use Rattle.prepare.proofs.pre_allocate.Goals as goal

pub make_all-requires : goal.make_all-requires
make_all-requires c =
    made_sound (mem c.args.pages.now c.args.rows.now c.args.blocks.now c.args.table.now) c.args.max_id _ _
    (c.plan_for.ensures ∙ hop (plan_prepare (mem c.args.pages.now c.args.rows.now c.args.blocks.now c.args.table.now)) c.args.max_id c.ranges.max_id)
    (c.in_ok-plan_for.was ∙ ap Ok c.in-Some.is)

pub returns-in_err-plan_for : goal.returns-in_err-plan_for
returns-in_err-plan_for c =
    let p = err_from_is_err_and c.from_residual.result c.from_residual.ensures.1 in
    let planned = c.plan_for.ensures ∙ hop (plan_prepare (mem c.args.pages.now c.args.rows.now c.args.blocks.now c.args.table.now)) c.args.max_id c.ranges.max_id in
    rw (p.1, p.2) (prepare_does (mem c.args.pages.now c.args.rows.now c.args.blocks.now c.args.table.now) c.args.max_id c.ranges.max_id
    (plan_carried (mem c.args.pages.now c.args.rows.now c.args.blocks.now c.args.table.now) c.args.max_id _ _ planned c.in_err-plan_for.was))

pub returns-in-None : goal.returns-in-None
returns-in-None c =
    prepare_does (mem c.args.pages.now c.args.rows.now c.args.blocks.now c.args.table.now) c.args.max_id c.ranges.max_id
    (plan_carried (mem c.args.pages.now c.args.rows.now c.args.blocks.now c.args.table.now) c.args.max_id _ _
    (c.plan_for.ensures ∙ hop (plan_prepare (mem c.args.pages.now c.args.rows.now c.args.blocks.now c.args.table.now)) c.args.max_id c.ranges.max_id)
    (c.in_ok-plan_for.was ∙ ap Ok c.in-None.is))

pub returns-in-Some : goal.returns-in-Some
returns-in-Some c =
    prepare_does (mem c.args.pages.now c.args.rows.now c.args.blocks.now c.args.table.now) c.args.max_id c.ranges.max_id
    (ap (did (Ok tt)) (c.make_all.ensures c.args.blocks.now)
    ∙ plan_carried (mem c.args.pages.now c.args.rows.now c.args.blocks.now c.args.table.now) c.args.max_id _ _
    (c.plan_for.ensures ∙ hop (plan_prepare (mem c.args.pages.now c.args.rows.now c.args.blocks.now c.args.table.now)) c.args.max_id c.ranges.max_id)
    (c.in_ok-plan_for.was ∙ ap Ok c.in-Some.is))

-- The walk, the mode, then the chunk of the maximum. Assumes nothing.
use mathlib.Core.Path.{sym, ◌∙◌}
use Prim.Native.Nat.{◌≤◌}
use native.Mathlib.Omega.{arith}
use Rattle.numbers.specs.Ids.{chunk_of}
use Rattle.numbers.proofs.Signs.{hop}
use Rattle.document.specs.Sizes.{InRange}
use Rattle.layout.specs.Mem.{mem}
use Rattle.layout.specs.Sizes.{over_count}
use Rattle.prepare.proofs.PreparePlans.{plan_three, plan_four, plan_range, plan_natural, chunk_small}
use Rattle.prepare.proofs.plan.plan_for.Goals as goal
use Rattle.std.specs.Prelude.{None, Some}

pub returns-then-not-walk : goal.returns-then-not-walk
returns-then-not-walk c =
    plan_three ((mem c.args.pages.now c.args.rows.now c.args.blocks.now c.args.table.now)) c.args.max_id _ c.walk.ensures (c.if-not-walk.true)

pub returns-then-mode-eq-RANKED : goal.returns-then-mode-eq-RANKED
returns-then-mode-eq-RANKED c =
    plan_four ((mem c.args.pages.now c.args.rows.now c.args.blocks.now c.args.table.now)) c.args.max_id _
    c.walk.ensures (c.if-not-walk.false) _ c.mode.ensures c.if-mode-eq-RANKED.true

pub chunk_of-requires : goal.chunk_of-requires
chunk_of-requires c =
    omega (arith, ((let known : InRange c.read-h.result × (over_count c.args.table.now ≤ 65536) = plan_range ((mem c.args.pages.now c.args.rows.now c.args.blocks.now c.args.table.now)) c.args.max_id _ c.walk.ensures (c.if-not-walk.false) _ c.mode.ensures _ c.read-h.ensures in known)).0.s_high)

pub returns-in_default : goal.returns-in_default
returns-in_default c =
    (plan_natural ((mem c.args.pages.now c.args.rows.now c.args.blocks.now c.args.table.now)) c.args.max_id _ c.walk.ensures (c.if-not-walk.false) _ c.mode.ensures _ c.read-h.ensures c.if-mode-eq-RANKED.false None ((sym c.in_default.is ∙ c.chunk_of.ensures ∙ hop (chunk_of _) c.args.max_id c.ranges.max_id)))

pub judge-requires : goal.judge-requires
judge-requires c =
    let i = (let known : InRange c.read-h.result × (over_count c.args.table.now ≤ 65536) = plan_range ((mem c.args.pages.now c.args.rows.now c.args.blocks.now c.args.table.now)) c.args.max_id _ c.walk.ensures (c.if-not-walk.false) _ c.mode.ensures _ c.read-h.ensures in known) in
    let q = (sym c.in-Some.is ∙ c.chunk_of.ensures ∙ hop (chunk_of _) c.args.max_id c.ranges.max_id) in (
      i.0,
      i.1,
      chunk_small _ c.args.max_id _ i.0.s_low i.0.s_high c.ranges.max_id q,
    )

pub returns : goal.returns
returns c =
    c.judge.ensures ∙ (plan_natural ((mem c.args.pages.now c.args.rows.now c.args.blocks.now c.args.table.now)) c.args.max_id _ c.walk.ensures (c.if-not-walk.false) _ c.mode.ensures _ c.read-h.ensures c.if-mode-eq-RANKED.false (Some _) ((sym c.in-Some.is ∙ c.chunk_of.ensures ∙ hop (chunk_of _) c.args.max_id c.ranges.max_id)))

-- Tests in document 01's order, then the boundaries.
use mathlib.Core.Path.{◌≡◌}
use native.Mathlib.Omega.{arith}
use Rattle.sums.specs.Cuts.{size}
use Rattle.layout.specs.Mem.{mem}
use Rattle.cuts.proofs.Outcomes.{last_fits, is_ready, leaves_bad, leaves_open, leaves_short, leaves_made}
use Rattle.cuts.proofs.planning.plan.Goals as goal

pub returns-then-not-walk : goal.returns-then-not-walk
returns-then-not-walk c =
    let a = c.args in leaves_bad (mem a.pages.now a.rows.now a.blocks.now a.table.now) a.slots a.bounds.now _ c.walk.ensures c.if-not-walk.true

pub returns-then-mode-ne-RANKED : goal.returns-then-mode-ne-RANKED
returns-then-mode-ne-RANKED c =
    let a = c.args in leaves_open (mem a.pages.now a.rows.now a.blocks.now a.table.now) a.slots a.bounds.now _ c.walk.ensures c.if-not-walk.false _ c.mode.ensures c.if-mode-ne-RANKED.true

pub returns-then-bounds-n : goal.returns-then-bounds-n
returns-then-bounds-n c =
    let a = c.args in leaves_short (mem a.pages.now a.rows.now a.blocks.now a.table.now) a.slots a.bounds.now _ c.walk.ensures c.if-not-walk.false _ c.mode.ensures c.if-mode-ne-RANKED.false _ _ c.total-total.ensures c.parts-n.ensures c.if-bounds-n.true

pub fill-requires : goal.fill-requires
fill-requires c =
    let a = c.args in (
      is_ready (mem a.pages.now a.rows.now a.blocks.now a.table.now) a.slots a.bounds.now _ c.walk.ensures
          c.if-not-walk.false _ c.mode.ensures
          c.if-mode-ne-RANKED.false _ _ c.total-total.ensures c.parts-n.ensures,
      last_fits _ _ _ c.parts-n.ensures c.total-total.type_inv,
    )

pub returns : goal.returns
returns c =
    let a = c.args in leaves_made (mem a.pages.now a.rows.now a.blocks.now a.table.now) a.slots a.bounds.now _ c.walk.ensures c.if-not-walk.false _ c.mode.ensures c.if-mode-ne-RANKED.false _ _ c.total-total.ensures c.parts-n.ensures _ _ c.if-bounds-n.false (let m : c.max.result ≡ size a.slots = omega arith in m) c.fill.ensures

-- The walk says no, or the rest decides.
use Rattle.fullcheck.proofs.Decide.{walk_no, walk_yes, all_told, answered}
use Rattle.layout.specs.Mem.{mem}
use Rattle.fullcheck.proofs.check.Goals as goal

pub rest_is-requires : goal.rest_is-requires
rest_is-requires c =
    let a = c.args in let x = mem a.pages.now a.rows.now a.blocks.now a.table.now in walk_yes x _ c.walk.ensures _ c.read.ensures c.if-walk.true

pub returns-then-walk : goal.returns-then-walk
returns-then-walk c =
    let a = c.args in let x = mem a.pages.now a.rows.now a.blocks.now a.table.now in answered x _ (all_told x _ c.walk.ensures _ c.read.ensures c.if-walk.true _ c.rest_is.ensures)

pub returns-else-walk : goal.returns-else-walk
returns-else-walk c =
    let a = c.args in let x = mem a.pages.now a.rows.now a.blocks.now a.table.now in answered x _ (walk_no x _ c.walk.ensures c.if-walk.false)

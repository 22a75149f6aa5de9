-- Refused; a part that is not inside its pool; else the record of what was filled. Assumes nothing.
use mathlib.Core.Path.{sym, ◌∙◌}
use Rattle.layout.specs.Mem.{mem}
use Rattle.iteration.proofs.Records.{iter_refused, iter_bad, iter_to}
use Rattle.iteration.proofs.Promises.{iterate}
use Rattle.iteration.proofs.listing.iter_from.Goals as goal

pub returns-then-not-are : goal.returns-then-not-are
returns-then-not-are c =
    let a = c.args in
    iterate (mem a.pages.now a.rows.now a.blocks.now a.table.now) a.start (c.refused.ensures ∙ iter_refused (mem a.pages.now a.rows.now a.blocks.now a.table.now) a.start c.ranges.start (sym c.are.ensures ∙ c.if-not-are.true))

pub returns-in-Ok : goal.returns-in-Ok
returns-in-Ok c =
    let a = c.args in
    iterate (mem a.pages.now a.rows.now a.blocks.now a.table.now) a.start (iter_to (mem a.pages.now a.rows.now a.blocks.now a.table.now) a.start c.ranges.start (sym c.are.ensures ∙ c.if-not-are.false) _ c.from_zero-lo.ensures _ _ _ c.in-Ok.ensures c.record_of.ensures)

pub returns-in-Err : goal.returns-in-Err
returns-in-Err c =
    let a = c.args in
    iterate (mem a.pages.now a.rows.now a.blocks.now a.table.now) a.start (c.refused-in-Err.ensures ∙ iter_bad (mem a.pages.now a.rows.now a.blocks.now a.table.now) a.start c.ranges.start (sym c.are.ensures ∙ c.if-not-are.false) _ c.from_zero-lo.ensures _ c.in-Err.ensures.0 c.in-Err.ensures.1)

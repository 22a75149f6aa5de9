-- Past the largest id there is nothing; else the range test from the next on. Assumes nothing.
use Rattle.layout.specs.Mem.{mem}
use Rattle.scan.proofs.Promises.{any_by_law}
use Rattle.iteration.proofs.Nexts.{past_is, none_past}
use Rattle.iteration.proofs.listing.any_past.Goals as goal

pub returns-then-last-eq9223372036854775807 : goal.returns-then-last-eq9223372036854775807
returns-then-last-eq9223372036854775807 c =
    let a = c.args in
    none_past (mem a.pages.now a.rows.now a.blocks.now a.table.now) c.requires a.last c.ranges.last c.if-last-eq9223372036854775807.true

pub returns : goal.returns
returns c =
    let a = c.args in
    past_is a.last c.ranges.last c.if-last-eq9223372036854775807.false (mem a.pages.now a.rows.now a.blocks.now a.table.now) _ (any_by_law (mem a.pages.now a.rows.now a.blocks.now a.table.now) _ _ _ c.any_in_range.ensures)

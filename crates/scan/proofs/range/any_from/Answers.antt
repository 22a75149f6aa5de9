-- The run from the first entry that may have an id of lo or more. Assumes nothing.
use mathlib.Core.Path.{◌∙◌}
use Rattle.layout.specs.Mem.{mem}
use Rattle.scan.proofs.Ranges.{from_is}
use Rattle.scan.proofs.range.any_from.Goals as goal

pub returns : goal.returns
returns c =
    let a = c.args in
    c.any_run.ensures ∙ from_is (mem a.pages.now a.rows.now a.blocks.now a.table.now) a.lo a.hi _ _ (c.first-e.ensures _ _ _) c.number.ensures.0

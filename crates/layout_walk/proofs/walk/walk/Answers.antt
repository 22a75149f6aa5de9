-- The test of the head says what the table's test asks. Assumes nothing.
use mathlib.Core.Path.{sym, ◌∙◌}
use Rattle.layout.specs.Mem.{mem}
use Rattle.layout.proofs.Tests.{head_of}
use Rattle.layout_walk.proofs.walk.walk.Goals as goal

pub table_is-requires : goal.table_is-requires
table_is-requires c =
    let a = c.args in
    let g = (head_of c.read-h.result (mem a.pages.now a.rows.now a.blocks.now a.table.now)).sound (sym c.head_is.ensures ∙ c.if-head_is.true) in
    (g.sizes, g.room.in_table, g.over_fits)

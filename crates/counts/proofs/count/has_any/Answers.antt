-- An entry that has a word is found, or none has. Assumes nothing.
use mathlib.Core.Path.{sym, ◌∙◌}
use Rattle.layout.specs.Mem.{mem}
use Rattle.counts.proofs.Totals.{no_any, any_end}
use Rattle.counts.proofs.count.has_any.Goals as goal

pub returns-then-not-are : goal.returns-then-not-are
returns-then-not-are c =
    let a = c.args in
    let x = mem a.pages.now a.rows.now a.blocks.now a.table.now in
    no_any x (sym c.are.ensures ∙ c.if-not-are.true)

pub returns : goal.returns
returns c =
    let a = c.args in
    let x = mem a.pages.now a.rows.now a.blocks.now a.table.now in
    let u = c.next_used.ensures in
    any_end x (sym c.are.ensures ∙ c.if-not-are.false) _ _ c.number-n.ensures.0 u.1 u.2 u.3

-- Refused; by the sign of max; an empty range; the run. Assumes nothing.
use mathlib.Core.Path.{sym, ◌∙◌}
use Rattle.layout.specs.Mem.{mem}
use Rattle.scan.proofs.Promises.{refused, below, none_between, between}
use Rattle.scan.proofs.range.any_in_range.Goals as goal

pub returns-then-not-are : goal.returns-then-not-are
returns-then-not-are c =
    let a = c.args in
    refused (mem a.pages.now a.rows.now a.blocks.now a.table.now) a.min a.max (sym c.are.ensures ∙ c.if-not-are.true)

pub returns-in_default : goal.returns-in_default
returns-in_default c =
    let a = c.args in
    below (mem a.pages.now a.rows.now a.blocks.now a.table.now) a.min a.max (sym c.are.ensures ∙ c.if-not-are.false) c.ranges.min c.ranges.max c.in_default.ensures

pub returns-then-hi-lo : goal.returns-then-hi-lo
returns-then-hi-lo c =
    let a = c.args in
    none_between (mem a.pages.now a.rows.now a.blocks.now a.table.now) a.min a.max (sym c.are.ensures ∙ c.if-not-are.false) c.ranges.min c.ranges.max _ _ c.from_zero-lo.ensures c.in-Some.ensures c.if-hi-lo.true

pub returns : goal.returns
returns c =
    let a = c.args in
    between (mem a.pages.now a.rows.now a.blocks.now a.table.now) a.min a.max (sym c.are.ensures ∙ c.if-not-are.false) c.ranges.min c.ranges.max _ _ c.from_zero-lo.ensures c.in-Some.ensures c.if-hi-lo.false _ c.any_from.ensures

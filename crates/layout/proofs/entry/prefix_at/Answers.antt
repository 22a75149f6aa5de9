-- The element that stands there, below D and past it. Assumes nothing.
use mathlib.Core.Path.{◌∙◌}
use Rattle.layout.proofs.Entries.{prefix_below, prefix_past}
use Rattle.layout.proofs.entry.prefix_at.Goals as goal

pub returns-then-e-h : goal.returns-then-e-h
returns-then-e-h c = let a = c.args in c.at.ensures ∙ prefix_below a.h a.table.now a.e c.if-e-h.true

pub returns : goal.returns
returns c = let a = c.args in c.at-2.ensures ∙ prefix_past a.h a.table.now a.e c.if-e-h.false

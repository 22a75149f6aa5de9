-- A direct entry has its own number, an overflow entry its first word. Assumes nothing.
use mathlib.Core.Path.{◌∙◌}
use Rattle.layout.proofs.Entries.{chunk_below, chunk_past}
use Rattle.layout.proofs.entry.chunk_at.Goals as goal

pub returns-then-e-h : goal.returns-then-e-h
returns-then-e-h c = let a = c.args in chunk_below a.h a.table.now a.e c.if-e-h.true

pub returns : goal.returns
returns c = let a = c.args in c.at.ensures ∙ chunk_past a.h a.table.now a.e c.if-e-h.false

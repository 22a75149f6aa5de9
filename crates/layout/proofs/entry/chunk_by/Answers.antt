-- A direct entry has its own number, an overflow entry its first word. Assumes nothing.
use mathlib.Core.Path.{◌∙◌}
use Rattle.layout.proofs.Entries.{chunk_direct, chunk_over}
use Rattle.layout.proofs.entry.chunk_by.Goals as goal

pub returns-then-e-d : goal.returns-then-e-d
returns-then-e-d c = let a = c.args in chunk_direct a.table.now a.e _ c.direct-d.ensures c.if-e-d.true

pub returns : goal.returns
returns c = let a = c.args in c.at.ensures ∙ chunk_over a.table.now a.e _ c.direct-d.ensures c.if-e-d.false

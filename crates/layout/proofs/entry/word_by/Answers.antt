-- A direct entry below D, an overflow entry past it. Assumes nothing.
use mathlib.Core.Path.{◌∙◌}
use Rattle.layout.proofs.Entries.{word_direct, word_over}
use Rattle.layout.proofs.entry.word_by.Goals as goal

pub returns-then-e-d : goal.returns-then-e-d
returns-then-e-d c = let a = c.args in c.at.ensures ∙ word_direct a.table.now a.e _ c.direct-d.ensures c.if-e-d.true

pub returns : goal.returns
returns c = let a = c.args in c.at-2.ensures ∙ word_over a.table.now a.e _ c.direct-d.ensures c.if-e-d.false

-- One look below D, a search past it. Assumes nothing.
use Rattle.layout.proofs.Finds.{in_overflow}
use Rattle.layout.proofs.find.word_of.Goals as goal

pub returns-then-d-c : goal.returns-then-d-c
returns-then-d-c c = let a = c.args in in_overflow a.table.now a.c _ c.direct-d.ensures c.if-d-c.true _ c.overflow_word.ensures

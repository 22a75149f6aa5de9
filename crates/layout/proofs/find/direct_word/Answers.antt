-- One look below D. Assumes nothing.
use mathlib.Core.Path.{refl}
use Rattle.layout.proofs.Finds.{in_table, past_table}
use Rattle.layout.proofs.find.direct_word.Goals as goal

pub returns-then-i-table : goal.returns-then-i-table
returns-then-i-table c = in_table c.args.table.now c.args.c _ refl c.requires.1 c.if-i-table.true

pub returns : goal.returns
returns c = past_table c.args.table.now c.args.c _ refl c.requires.1 c.if-i-table.false

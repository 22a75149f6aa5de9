-- Zeros, then the sizes on top. Assumes nothing.
use Rattle.layout_writes.proofs.Fills.{table_fresh}
use Rattle.layout_writes.proofs.setup.fresh_table.Goals as goal

pub returns : goal.returns
returns c = let a = c.args in table_fresh a.h a.table.now _ _ c.requires.1 (c.fill.ensures.after (λ y e. e)) c.put_sizes.ensures

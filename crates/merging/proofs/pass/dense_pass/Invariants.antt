-- Entries 0 to e - 1 are done, as the model does them, and p is the lowest page that is free now. Assumes nothing.
use Rattle.merging.proofs.Ways.{DenseWay}
use Rattle.merging.proofs.pass.dense_pass.Given as goal

abbrev pub invariant-loop-e : goal.invariant-loop-e
invariant-loop-e l = DenseWay l.h l.initial.pages l.initial.rows l.initial.table l.spages l.srows l.stable l.pages l.rows l.table l.p l.e

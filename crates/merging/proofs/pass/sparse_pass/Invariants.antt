-- Entries 0 to e - 1 are done, as the model does them, and r is the lowest row that is free now. Assumes nothing.
use Rattle.merging.proofs.Ways.{SparseWay}
use Rattle.merging.proofs.pass.sparse_pass.Given as goal

abbrev pub invariant-loop-e : goal.invariant-loop-e
invariant-loop-e l = SparseWay l.h l.initial.rows l.initial.table l.srows l.stable l.rows l.table l.r l.e

-- Each entry's turn, and then the lowest row that is free. Assumes nothing.
use native.Mathlib.Omega.{arith}
use Rattle.merging.proofs.Ways.{sparse_ready, sparse_more}
use Rattle.merging.proofs.pass.sparse_pass.Goals as goal

pub sparse_turn-requires : goal.sparse_turn-requires
sparse_turn-requires c = let q = c.requires in sparse_ready _ _ _ _ _ _ q.0 q.1 q.2 _ _ _ c.loop-e.e c.loop-e.invariant (omega arith)

pub loop-e-preserved : goal.loop-e-preserved
loop-e-preserved c =
    let q = c.requires in
    sparse_more _ _ _ _ _ _ q.0 q.1 q.2 _ _ _ c.loop-e.e c.loop-e.invariant (omega arith) _ _ _ c.sparse_turn.ensures c.next_row-r.ensures

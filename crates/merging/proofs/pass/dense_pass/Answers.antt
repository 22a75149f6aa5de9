-- Each entry's turn, and then the lowest page that is free. Assumes nothing.
use native.Mathlib.Omega.{arith}
use Rattle.merging.proofs.Ways.{dense_ready, dense_more}
use Rattle.merging.proofs.pass.dense_pass.Goals as goal

pub dense_turn-requires : goal.dense_turn-requires
dense_turn-requires c = let q = c.requires in dense_ready _ _ _ _ _ _ _ _ q.0 q.1 q.2 _ _ _ _ c.loop-e.e c.loop-e.invariant (omega arith)

pub loop-e-preserved : goal.loop-e-preserved
loop-e-preserved c =
    let q = c.requires in
    dense_more _ _ _ _ _ _ _ _ q.0 q.1 q.2 _ _ _ _ c.loop-e.e c.loop-e.invariant (omega arith) _ _ _ _ c.dense_turn.ensures c.next_page-p.ensures

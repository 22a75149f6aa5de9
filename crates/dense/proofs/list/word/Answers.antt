use native.Mathlib.Omega.{arith}
use Rattle.sums.proofs.Filling.{left_full}
use Rattle.dense.proofs.Listed.{bit_turn, bit_end}
use Rattle.dense.proofs.list.word.Goals as goal

pub loop-rest-preserved : goal.loop-rest-preserved
loop-rest-preserved c =
    let l = c.loop-rest in
    bit_turn _ _ _ l.out l.n c.args.at l.rest _ l.invariant c.from.ensures c.loop-rest-test.true (omega arith) (omega arith) c.if-n-out.true

pub returns-else-n-out : goal.returns-else-n-out
returns-else-n-out c = let l = c.loop-rest in left_full _ _ _ l.out l.n _ l.invariant c.if-n-out.false

pub returns-after-loop-rest : goal.returns-after-loop-rest
returns-after-loop-rest c = let l = c.loop-rest in bit_end _ _ _ l.out l.n c.args.at l.rest l.invariant c.loop-rest-test.false

use native.Mathlib.Omega.{arith}
use Rattle.sparse.proofs.Edits.{copied_none, copied_more, copied_end}
use Rattle.sparse.proofs.copy.Goals as goal

pub loop-i-init : goal.loop-i-init
loop-i-init c = copied_none _ _

pub loop-i-preserved : goal.loop-i-preserved
loop-i-preserved c = let l = c.loop-i in copied_more _ _ _ l.i (omega arith) (omega arith) l.invariant

pub returns : goal.returns
returns c = let l = c.loop-i in copied_end _ _ _ l.i _ l.invariant (omega arith) c.loop-i-test.false

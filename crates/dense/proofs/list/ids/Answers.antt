use Prim.Native.Nat.{◌/◌}
use native.Mathlib.Omega.{arith}
use Rattle.sums.proofs.Filling.{left_full}
use Rattle.dense.proofs.Listed.{asked_outside, asked_first, asked_turn, asked_end}
use Rattle.dense.proofs.list.ids.Goals as goal

pub returns-then-words-first : goal.returns-then-words-first
returns-then-words-first c = asked_outside _ c.args.base c.args.from _ _ c.if-words-first.true c.requires.0

pub loop-i-init : goal.loop-i-init
loop-i-init c = asked_first _ c.args.base c.args.from _ _ _ _ (omega arith) (c.type_inv.words (c.args.from / 64)).fits c.requires.0 c.word-n.ensures

pub loop-i-preserved : goal.loop-i-preserved
loop-i-preserved c = let l = c.loop-i in asked_turn _ c.args.base _ _ _ l.out l.n l.i l.invariant _ _ c.loop-i-test.true c.word-n-in-loop-i.ensures

pub returns-then-n-out : goal.returns-then-n-out
returns-then-n-out c = let l = c.loop-i in left_full _ _ _ l.out l.n _ l.invariant (omega arith)

pub returns-after-loop-i : goal.returns-after-loop-i
returns-after-loop-i c = let l = c.loop-i in asked_end _ c.args.base _ _ _ l.out l.n l.i l.invariant c.loop-i-test.false

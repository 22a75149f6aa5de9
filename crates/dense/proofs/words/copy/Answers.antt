use mathlib.Core.Path.{◌∙◌}
use native.Mathlib.Omega.{arith}
use lib.Seq.{take_all}
use Rattle.dense.proofs.Turns.{copy_more, copy_all}
use Rattle.dense.proofs.words.copy.Goals as goal

pub loop-i-preserved : goal.loop-i-preserved
loop-i-preserved c = let l = c.loop-i in copy_more c.args.dst.now c.args.src.now l.dst l.i (omega arith) (omega arith) l.invariant

pub returns : goal.returns
returns c = let l = c.loop-i in l.invariant ∙ (copy_all c.args.dst.now c.args.src.now l.i (omega arith) ∙ take_all l.i c.args.src.now (omega arith))

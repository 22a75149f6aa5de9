use mathlib.Core.Path.{◌∙◌}
use native.Mathlib.Omega.{arith}
use Rattle.dense.proofs.Turns.{or_none, or_more, or_all}
use Rattle.dense.proofs.words.or_into.Goals as goal

pub loop-i-init : goal.loop-i-init
loop-i-init c = or_none c.args.dst.now

pub loop-i-preserved : goal.loop-i-preserved
loop-i-preserved c = let l = c.loop-i in or_more c.args.dst.now c.args.src.now l.dst l.i (omega arith) (omega arith) l.invariant

pub returns : goal.returns
returns c = let l = c.loop-i in l.invariant ∙ or_all c.args.dst.now c.args.src.now l.i (omega arith)

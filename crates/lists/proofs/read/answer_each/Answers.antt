use mathlib.Core.Path.{sym, ◌∙◌}
use native.Mathlib.Omega.{arith}
use lib.IntN.{pos}
use lib.ListN.{get_or}
use mir.Syntax.{w64}
use mir.Val.{SFits}
use mir.Facts.{to_z-of_z}
use borrow.Author.Rules.{rules}
use Rattle.lists.proofs.Answered.{answered_none, answered_turn, answered_all}
use Rattle.lists.proofs.read.answer_each.Goals as goal

pub loop-i-init : goal.loop-i-init
loop-i-init g c = λ f e. sym (answered_none f c.args.ids.now c.args.answers.now)

pub loop-i-preserved : goal.loop-i-preserved
loop-i-preserved g c = λ f e.
    let fits : SFits w64 (get_or c.args.ids.now c.loop-i.i (pos 0)) = search rules in
    let h = simp to_z-of_z at c.one.ensures in
    answered_turn f c.loop-i.i c.args.ids.now c.args.answers.now c.loop-i.answers _ (c.loop-i.invariant f e) (omega arith) (omega arith) (e _ _ fits h)

pub returns : goal.returns
returns g c = λ f e. c.loop-i.invariant f e ∙ answered_all f _ c.args.ids.now c.args.answers.now (omega arith)

use mathlib.Core.Path.{◌≡◌, sym, ◌∙◌}
use native.Mathlib.Omega.{arith}
use lib.ListN.{get_or}
use lib.IntN.{pos}
use Rattle.range_list.proofs.Told.{told}
use Rattle.range_list.proofs.Columns.{ends_none, ends_all, ends_turn}
use Rattle.range_list.proofs.ends.mark_by.Goals as goal

pub loop-i-init : goal.loop-i-init
loop-i-init g c = λ f t. sym (ends_none f c.args.lows.now c.args.highs.now c.args.marks.now)

pub loop-i-preserved : goal.loop-i-preserved
loop-i-preserved g c = λ f t.
    let a = c.args in
    let l = c.loop-i in
    ends_turn f l.i a.lows.now a.highs.now a.marks.now l.marks c.test.result (l.invariant f t)
    (record { low = omega arith; high = omega arith; mark = omega arith })
    (told (goal.F-post g a.test) f t _ _ (omega arith) (omega arith) _ c.test.ensures)

pub returns : goal.returns
returns g c = λ f t.
    let a = c.args in
    c.loop-i.invariant f t ∙ ends_all f c.loop-i.i a.lows.now a.highs.now a.marks.now (omega arith)

use mathlib.Core.Path.{◌≡◌, ap, ◌∙◌}
use mathlib.Core.Bool.{Bool}
use native.Mathlib.Omega.{arith}
use lib.IntN.{ℤ}
use lib.ListN.{length}
use Rattle.document.specs.RangeList.{marked_by}
use Rattle.range_list.proofs.Told.{told}
use Rattle.range_list.proofs.Records.{one_marked}
use Rattle.range_list.proofs.Upto.{upto, upto_all}
use Rattle.range_list.proofs.list.mark_by.Goals as goal

pub loop-r-preserved : goal.loop-r-preserved
loop-r-preserved g c = λ f t.
    let l = c.loop-r in
    one_marked f c.args.list.now l.list l.r-index _ _ c.loop-r-test.true (l.invariant f t)
    (told (goal.F-post g c.args.test) f t _ _ (omega arith) (omega arith) _ c.test-r.ensures)

pub returns : goal.returns
returns g c = λ f t.
    let rs = c.args.list.now in
    let e : c.loop-r.r-index ≡ length rs = omega arith in
    c.loop-r.invariant f t ∙ (ap (λ k. upto (marked_by f) k rs) e ∙ upto_all (marked_by f) rs)

use mathlib.Core.Path.{sym}
use native.Mathlib.Omega.{arith}
use Rattle.sums.proofs.Counts.{byte_le, count_zero}
use Rattle.prepare.proofs.PreparePlans.{past_more, pages_are}
use Rattle.prepare.proofs.plan.pages_needed.Goals as goal

pub overflow_add-n : goal.overflow_add-n
overflow_add-n c = omega (arith, c.requires.0, c.requires.1, c.over_count.ensures)

pub loop-e-init : goal.loop-e-init
loop-e-init c = (omega arith, sym (count_zero _))

pub dense_past-requires : goal.dense_past-requires
dense_past-requires c = (c.requires.0, omega (arith, c.requires.0, c.requires.1, c.over_count.ensures))

pub loop-e-preserved : goal.loop-e-preserved
loop-e-preserved c =
    let a = c.args in
    let l = c.loop-e in (omega (arith, byte_le c.dense_past.result), past_more a.h a.table.now a.c l.e _ _ l.invariant.1 c.dense_past.ensures)

pub returns : goal.returns
returns c =
    let a = c.args in
    let l = c.loop-e in
    pages_are a.h a.table.now a.c _ l.e l.invariant.1 (omega (arith, c.over_count.ensures))

use native.Mathlib.Omega.{arith}
use mathlib.Core.Path.{refl}
use Rattle.sums.proofs.Rules.{all_none, all_more, all_end}
use Rattle.layout.proofs.entry.eight_are.Goals as goal

pub loop-i-init : goal.loop-i-init
loop-i-init c = (omega arith, all_none _)

pub overflow_mul-k : goal.overflow_mul-k
overflow_mul-k c = omega arith

pub overflow_add-k : goal.overflow_add-k
overflow_add-k c = omega arith

pub offset_bounds-table-k : goal.offset_bounds-table-k
offset_bounds-table-k c = omega arith

pub bounds-table-k : goal.bounds-table-k
bounds-table-k c = omega arith

pub overflow_add-i : goal.overflow_add-i
overflow_add-i c = omega arith

pub loop-i-smaller : goal.loop-i-smaller
loop-i-smaller c = omega arith

pub loop-i-preserved : goal.loop-i-preserved
loop-i-preserved c = let l = c.loop-i in (omega arith, all_more _ l.i _ _ l.invariant.1 refl)

pub returns : goal.returns
returns c = let l = c.loop-i in all_end _ l.i _ _ l.invariant.1 (omega arith) (omega arith)

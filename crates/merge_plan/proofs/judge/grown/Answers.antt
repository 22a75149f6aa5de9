-- No count is above the entries. Assumes nothing.
use mathlib.Core.List.{[]}
use native.Mathlib.Omega.{arith}
use Rattle.layout.specs.Mem.{mem}
use Rattle.merge_plan.proofs.Judging.{grown_small}
use Rattle.merge_plan.proofs.judge.grown.Goals as goal

pub returns-clause-small : goal.returns-clause-small
returns-clause-small c =
    let a = c.args in
    let l = c.loop-e in
    grown_small (mem [] a.rows.now [] a.table.now) (mem [] a.srows.now [] a.stable.now) l.e l.k (l.invariant [] [] [] []) (omega arith)

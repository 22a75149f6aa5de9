-- No count is above the entries before. Assumes nothing.
use mathlib.Core.List.{[]}
use native.Mathlib.Omega.{arith}
use Rattle.layout.specs.Mem.{mem}
use Rattle.merge_plan.proofs.Judging.{grown_small}
use Rattle.merge_plan.proofs.judge.with_entry.Goals as goal

pub with_chunk-requires : goal.with_chunk-requires
with_chunk-requires c =
    let a = c.args in
    grown_small (mem [] a.rows.now [] a.table.now) (mem [] a.srows.now [] a.stable.now) a.e a.n (c.requires.3 [] [] [] []) (omega arith)

-- 8, past 6 and 7. Assumes nothing.
use native.Mathlib.Omega.{arith}
use Rattle.layout.specs.Mem.{mem}
use Rattle.merge_plan.proofs.Judging.{judged_eight}
use Rattle.merge_plan.proofs.judge.judge.Goals as goal

pub returns-then-h-pages_owned : goal.returns-then-h-pages_owned
returns-then-h-pages_owned c =
    λ p b u v.
    let a = c.args in
    judged_eight (mem p a.rows.now b a.table.now) (mem u a.srows.now v a.stable.now) a.h c.requires.0.header c.grown-n.result (c.grown-n.ensures.grown p b u v)
    (omega arith) (omega arith) (omega arith)

-- 6, then 8, then the chunk. Assumes nothing.
use Rattle.prepare.proofs.PreparePlans.{judge_six, judge_eight, judge_make}
use Rattle.prepare.proofs.plan.judge.Goals as goal

pub returns-then-h-over_needed : goal.returns-then-h-over_needed
returns-then-h-over_needed c = let a = c.args in
    judge_six a.h a.table.now a.c _ c.over_needed.ensures c.if-h-over_needed.true

pub returns-then-h-pages_needed : goal.returns-then-h-pages_needed
returns-then-h-pages_needed c =
    let a = c.args in
    judge_eight a.h a.table.now a.c _ c.over_needed.ensures c.if-h-over_needed.false _ c.pages_needed.ensures
    c.if-h-pages_needed.true

pub returns : goal.returns
returns c =
    let a = c.args in
    judge_make a.h a.table.now a.c _ c.over_needed.ensures c.if-h-over_needed.false _ c.pages_needed.ensures
    c.if-h-pages_needed.false

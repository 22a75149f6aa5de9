use mathlib.Core.Path.{◌∙◌}
use Rattle.layout.specs.Mem.{mem}
use Rattle.std.proofs.lemmas.Result.{err_from_is_err_and}
use Rattle.iteration.proofs.Fills.{run_full, run_end, run_bad, run_next}
use Rattle.iteration.proofs.listing.fill_run.Goals as goal

pub returns-in_err-k : goal.returns-in_err-k
returns-in_err-k c =
    let a = c.args in
    let l = c.loop-i in
    let e = c.in_err-k.ensures in
    let p = err_from_is_err_and c.from_residual.result c.from_residual.ensures.1 in
    rw (p.1, p.2) (e.0, run_bad (mem a.pages.now a.rows.now a.blocks.now a.table.now) a.lo l.i a.n l.out l.k c.loop-i-test.true c.if-k-ge64.false e.1 ∙ l.invariant.0)

pub loop-i-preserved : goal.loop-i-preserved
loop-i-preserved c =
    let a = c.args in
    let l = c.loop-i in
    (run_next (mem a.pages.now a.rows.now a.blocks.now a.table.now) a.lo l.i a.n l.out l.k c.loop-i-test.true c.if-k-ge64.false _ _ c.in_ok-k.ensures ∙ l.invariant.0, c.fill_entry.auto.out ∙ l.invariant.1)

pub returns-then-k-ge64 : goal.returns-then-k-ge64
returns-then-k-ge64 c =
    let a = c.args in
    let l = c.loop-i in
    run_full (mem a.pages.now a.rows.now a.blocks.now a.table.now) a.lo l.i a.n l.out l.k c.if-k-ge64.true ∙ l.invariant.0

pub returns-after-loop-i : goal.returns-after-loop-i
returns-after-loop-i c =
    let a = c.args in
    let l = c.loop-i in
    run_end (mem a.pages.now a.rows.now a.blocks.now a.table.now) a.lo l.i a.n l.out l.k c.loop-i-test.false ∙ l.invariant.0

use mathlib.Core.Path.{◌∙◌}
use mathlib.Core.Bool.{true, false}
use Rattle.std.specs.Prelude.{Ok, Err}
use Rattle.std.proofs.lemmas.Result.{err_from_is_err_and}
use Rattle.layout.specs.Mem.{mem}
use Rattle.entries.proofs.Clips.{quotient_is}
use Rattle.scan.proofs.Ranges.{run_past, run_turn, run_end}
use Rattle.scan.proofs.range.any_run.Goals as goal

pub returns-then-last-chunk : goal.returns-then-last-chunk
returns-then-last-chunk c =
    let a = c.args in
    let l = c.loop-i in
    let q = quotient_is c.shift.ensures a.hi c.high-last.ensures in
    run_past (mem a.pages.now a.rows.now a.blocks.now a.table.now) a.lo a.hi l.i a.n c.loop-i-test.true _ _ c.chunk.ensures q c.if-last-chunk.true ∙ l.invariant

pub returns-in_err-any_entry : goal.returns-in_err-any_entry
returns-in_err-any_entry c =
    let a = c.args in
    let l = c.loop-i in
    let q = quotient_is c.shift.ensures a.hi c.high-last.ensures in
    let p = err_from_is_err_and c.from_residual.result c.from_residual.ensures.1 in
    rw (p.1, p.2) (run_turn (mem a.pages.now a.rows.now a.blocks.now a.table.now) a.lo a.hi l.i a.n c.loop-i-test.true _ _ c.chunk.ensures q c.if-last-chunk.false (Err _) c.in_err-any_entry.ensures ∙ l.invariant)

pub returns-then-branch : goal.returns-then-branch
returns-then-branch c =
    let a = c.args in
    let l = c.loop-i in
    let q = quotient_is c.shift.ensures a.hi c.high-last.ensures in
    run_turn (mem a.pages.now a.rows.now a.blocks.now a.table.now) a.lo a.hi l.i a.n c.loop-i-test.true _ _ c.chunk.ensures q c.if-last-chunk.false (Ok true) (rw c.if-branch.true at c.in_ok-any_entry.ensures) ∙ l.invariant

pub loop-i-preserved : goal.loop-i-preserved
loop-i-preserved c =
    let a = c.args in
    let l = c.loop-i in
    let q = quotient_is c.shift.ensures a.hi c.high-last.ensures in
    run_turn (mem a.pages.now a.rows.now a.blocks.now a.table.now) a.lo a.hi l.i a.n c.loop-i-test.true _ _ c.chunk.ensures q c.if-last-chunk.false (Ok false) (rw c.if-branch.false at c.in_ok-any_entry.ensures) ∙ l.invariant

pub returns : goal.returns
returns c =
    let a = c.args in
    let l = c.loop-i in
    run_end (mem a.pages.now a.rows.now a.blocks.now a.table.now) a.lo a.hi l.i a.n c.loop-i-test.false ∙ l.invariant

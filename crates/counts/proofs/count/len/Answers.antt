use mathlib.Core.Path.{sym, ◌∙◌}
use native.Mathlib.Omega.{arith}
use Rattle.std.proofs.lemmas.Result.{err_from_is_err_and}
use Rattle.layout.specs.Mem.{mem}
use Rattle.counts.proofs.Totals.{no_len, len_start, len_refused, len_fits, len_more, len_end}
use Rattle.counts.proofs.count.len.Goals as goal

pub returns-then-not-are : goal.returns-then-not-are
returns-then-not-are c =
    let a = c.args in
    let x = mem a.pages.now a.rows.now a.blocks.now a.table.now in
    no_len x (sym c.are.ensures ∙ c.if-not-are.true)

pub loop-e-init : goal.loop-e-init
loop-e-init c =
    let a = c.args in
    let x = mem a.pages.now a.rows.now a.blocks.now a.table.now in
    (omega arith, len_start x)

pub returns-in_err-members : goal.returns-in_err-members
returns-in_err-members c =
    let a = c.args in
    let x = mem a.pages.now a.rows.now a.blocks.now a.table.now in
    let p = err_from_is_err_and c.from_residual.result c.from_residual.ensures.1 in
    rw (p.1, p.2) (len_refused x (sym c.are.ensures ∙ c.if-not-are.false) _ c.number-n.ensures.0 c.loop-e.e c.loop-e-test.true _ c.in_err-members.ensures)

pub overflow_add-members : goal.overflow_add-members
overflow_add-members c =
    let a = c.args in
    let x = mem a.pages.now a.rows.now a.blocks.now a.table.now in
    len_fits x (sym c.are.ensures ∙ c.if-not-are.false) c.loop-e.e _ _ (omega (arith, c.number-n.ensures.1)) c.loop-e.invariant.1 c.in_ok-members.ensures

pub loop-e-preserved : goal.loop-e-preserved
loop-e-preserved c =
    let a = c.args in
    let x = mem a.pages.now a.rows.now a.blocks.now a.table.now in
    let u = c.next_used-e.ensures in
    (u.1, len_more x c.loop-e.e _ u.0 u.2 _ _ c.loop-e.invariant.1 c.in_ok-members.ensures)

pub returns : goal.returns
returns c =
    let a = c.args in
    let x = mem a.pages.now a.rows.now a.blocks.now a.table.now in
    let l = c.loop-e in
    len_end x (sym c.are.ensures ∙ c.if-not-are.false) _ l.e c.number-n.ensures.0 l.invariant.0 c.loop-e-test.false _ l.invariant.1

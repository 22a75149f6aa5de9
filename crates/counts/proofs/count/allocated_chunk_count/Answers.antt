use mathlib.Core.Path.{sym, ◌∙◌}
use native.Mathlib.Omega.{arith}
use Rattle.layout.specs.Mem.{mem}
use Rattle.sums.proofs.Counts.{count_zero}
use Rattle.counts.proofs.Totals.{no_chunks, chunks_fit, chunks_more, chunks_end}
use Rattle.counts.proofs.count.allocated_chunk_count.Goals as goal

pub returns-then-not-are : goal.returns-then-not-are
returns-then-not-are c =
    let a = c.args in
    let x = mem a.pages.now a.rows.now a.blocks.now a.table.now in
    no_chunks x (sym c.are.ensures ∙ c.if-not-are.true)

pub loop-e-init : goal.loop-e-init
loop-e-init c =
    let a = c.args in
    let x = mem a.pages.now a.rows.now a.blocks.now a.table.now in
    (omega arith, sym (count_zero _))

pub overflow_add-chunks : goal.overflow_add-chunks
overflow_add-chunks c =
    let a = c.args in
    let x = mem a.pages.now a.rows.now a.blocks.now a.table.now in
    chunks_fit x c.loop-e.e _ (omega (arith, c.number-n.ensures.1)) c.loop-e.invariant.1 _

pub loop-e-preserved : goal.loop-e-preserved
loop-e-preserved c =
    let a = c.args in
    let x = mem a.pages.now a.rows.now a.blocks.now a.table.now in
    let u = c.next_used-e.ensures in
    (u.1, chunks_more x c.loop-e.e _ u.0 u.2 _ c.loop-e.invariant.1 _ c.word_by.ensures)

pub returns : goal.returns
returns c =
    let a = c.args in
    let x = mem a.pages.now a.rows.now a.blocks.now a.table.now in
    let l = c.loop-e in
    chunks_end x (sym c.are.ensures ∙ c.if-not-are.false) _ l.e c.number-n.ensures.0 l.invariant.0 c.loop-e-test.false _ l.invariant.1

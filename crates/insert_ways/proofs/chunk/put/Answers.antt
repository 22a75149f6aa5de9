-- What was found of the chunk is what its part takes. Assumes nothing.
use mathlib.Core.Path.{sym, ◌∙◌, ap}
use Rattle.layout.specs.Mem.{mem}
use Rattle.insert_plan.proofs.Readies.{page_ready, ready_begin, ready_row}
use Rattle.insert_ways.proofs.Chunks.{named, put_page}
use Rattle.insert_ways.proofs.chunk.put.Goals as goal
use Rattle.std.specs.Prelude.{Ok}

pub act-requires : goal.act-requires
act-requires c =
    let a = c.args in
    let r = c.requires in
    let x = mem a.pages.now a.rows.now a.blocks.now a.table.now in
    ready_begin x a.c a.o a.s r.2 r.0 r.1 r.3 r.4 _ c.begin-q.ensures

pub act-requires-in-Row : goal.act-requires-in-Row
act-requires-in-Row c =
    let a = c.args in
    let r = c.requires in
    let x = mem a.pages.now a.rows.now a.blocks.now a.table.now in
    let i = named x c.in_ok-w.w _ _ _ _ (sym (ap Ok c.in-Row.is) ∙ c.in_ok-spot_of.ensures) c.row_of.ensures in
    ready_row x a.c a.o a.s r.2 r.0 r.1 r.3 r.4 c.in_ok-w.w c.in_ok-w.ensures _ _ i _ c.row-q.ensures

pub mark-requires : goal.mark-requires
mark-requires c =
    let a = c.args in
    let r = c.requires in
    let x = mem a.pages.now a.rows.now a.blocks.now a.table.now in
    page_ready x a.c a.o a.s r.2 r.0 r.1 r.3 r.4 c.in_ok-w.w _ _ (sym (ap Ok c.in-Page.is) ∙ c.in_ok-spot_of.ensures)

pub returns-in-Page : goal.returns-in-Page
returns-in-Page c =
    let a = c.args in
    let m = c.mark.ensures in
    put_page a.pages.now a.rows.now a.blocks.now a.table.now a.c a.o c.in_ok-w.w c.in_ok-w.ensures _ _
    (sym (ap Ok c.in-Page.is) ∙ c.in_ok-spot_of.ensures) _ _ m.0 m.1

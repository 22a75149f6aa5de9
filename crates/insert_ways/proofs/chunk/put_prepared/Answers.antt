-- Only a page takes a prepared id. Assumes nothing.
use mathlib.Core.Path.{sym, ◌∙◌, ap}
use Rattle.layout.specs.Mem.{mem}
use Rattle.insert_plan.proofs.Readies.{page_ready}
use Rattle.insert_ways.proofs.Chunks.{prepared_page}
use Rattle.insert_ways.proofs.chunk.put_prepared.Goals as goal
use Rattle.std.specs.Prelude.{Ok}

pub mark-requires : goal.mark-requires
mark-requires c =
    let a = c.args in
    let r = c.requires in
    let x = mem a.pages.now a.rows.now a.blocks.now a.table.now in
    page_ready x a.c a.o a.s r.2 r.0 r.1 r.3 r.4 c.in_ok-w.w _ _ (sym (ap Ok c.in-Page.is) ∙ c.in_ok-spot_of.ensures)

pub returns-in-Page : goal.returns-in-Page
returns-in-Page c =
    let a = c.args in
    let m = c.mark.ensures in
    prepared_page a.pages.now a.rows.now a.blocks.now a.table.now a.c a.o c.in_ok-w.w c.in_ok-w.ensures _ _
    (sym (ap Ok c.in-Page.is) ∙ c.in_ok-spot_of.ensures) _ _ m.0 m.1

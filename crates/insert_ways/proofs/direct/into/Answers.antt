-- The page that a direct entry names. Assumes nothing.
use mathlib.Core.Path.{sym, ◌∙◌, ap}
use Rattle.layout.specs.Mem.{mem}
use Rattle.insert_plan.proofs.Readies.{page_ready}
use Rattle.insert_ways.proofs.Chunks.{put_page, prepared_page}
use Rattle.insert_ways.proofs.Ways.{found}
use Rattle.insert_ways.proofs.direct.into.Goals as goal
use Rattle.std.specs.Prelude.{Ok}

pub mark-requires : goal.mark-requires
mark-requires c =
    let a = c.args in
    let r = c.requires in
    let x = mem a.pages.now a.rows.now c.args.blocks.now a.table.now in
    page_ready x a.c a.o a.s r.2 r.0 r.1 r.3 r.4 c.in_ok-w.w _ _ (sym (ap Ok c.in-Ok-Page.field-0-is) ∙ c.in-Ok-Page.ensures)

pub returns : goal.returns
returns c =
    let a = c.args in
    let m = c.mark.ensures in
    let w = found c.direct_word.result c.in_ok-w.w c.in_ok-w.ensures.value ∙ c.direct_word.ensures in (
      put_page a.pages.now a.rows.now c.args.blocks.now a.table.now a.c a.o c.in_ok-w.w w _ _ (sym (ap Ok c.in-Ok-Page.field-0-is) ∙ c.in-Ok-Page.ensures) _ _ m.0 m.1,
      prepared_page a.pages.now a.rows.now c.args.blocks.now a.table.now a.c a.o c.in_ok-w.w w _ _ (sym (ap Ok c.in-Ok-Page.field-0-is) ∙ c.in-Ok-Page.ensures) _ _ m.0 m.1,
    )

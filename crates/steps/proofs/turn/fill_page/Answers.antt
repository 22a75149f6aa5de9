-- The page as a part of the pool, the row as a part of its own. Assumes nothing.
use native.Mathlib.Omega.{arith}
use lib.ListN.{length}
use Rattle.numbers.proofs.Powers.{powers}
use Rattle.layout.specs.Sizes.{wide}
use Rattle.layout.proofs.Parts.{slot_in}
use Rattle.layout.proofs.Lent.{length_lent}
use Rattle.steps.proofs.Fills.{fill_put}
use Rattle.steps.proofs.turn.fill_page.Goals as goal

pub write_row-requires : goal.write_row-requires
write_row-requires c =
    let g = c.args in
    let i = c.requires.0.sizes in
    let p = powers g.h.s i.s_low i.s_high in
    let s = slot_in g.h.m g.h.r g.r (length g.rows.now) c.requires.0.row c.requires.0.in_rows in
    let t = slot_in (wide g.h) g.h.p g.p (length g.pages.now) c.requires.1 c.requires.0.in_pages in
    let u = length_lent g.rows.now c.row_at-a.result g.h.m (omega (arith, c.row_at-a.ensures)) in
    let v = length_lent g.pages.now c.page_at-b.result c.pow2.result (omega (arith, c.page_at-b.ensures, c.pow2.ensures)) in
    (omega (arith, c.requires.0.members), omega arith, omega (arith, p.words, c.pow2.ensures))

pub returns : goal.returns
returns c =
    let g = c.args in
    fill_put g.pages.now g.rows.now g.h g.r g.p g.l _ _ _ c.row_at-a.ensures c.page_at-b.ensures c.pow2.ensures _
    c.write_row.ensures

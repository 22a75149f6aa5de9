-- By the chunk's place: the word that is found names it. Assumes nothing.
use mathlib.Core.Path.{◌≡◌, refl, ap, ◌∙◌}
use Rattle.layout.specs.Mem.{mem}
use Rattle.layout.specs.Entries.{place_of}
use Rattle.layout.specs.declared.place.Place.TheVariants.{Absent, Sparse, Dense}
use Rattle.calls.specs.Prepare.{into_page}
use Rattle.steps.proofs.Fills.{blank_paged}
use Rattle.prepare.proofs.ChunkTurn.{never_bad, place_is, page_there, inside_same}
use Rattle.prepare.proofs.write.make_dense.Goals as goal

pub returns-in_default : goal.returns-in_default
returns-in_default c = absurd (never_bad c.args.h c.args.table.now c.args.c c.requires.word _ c.word_of.ensures _ c.in_default.is)

pub enter_page-requires : goal.enter_page-requires
enter_page-requires c =
    let t = c.requires in
    (t.sizes, (page_there c.args.h c.args.p Absent _ ((place_is c.args.h c.args.table.now c.args.c c.requires.word _ c.word_of.ensures _ _ Absent c.in-Ok.is c.decode.ensures c.in-Absent.is)) c.requires.page) refl, t.over, t.chunk)

pub turn_row-requires : goal.turn_row-requires
turn_row-requires c =
    let t = c.requires in
    let e : Sparse c.in-Sparse.r c.in-Sparse.l ≡ place_of c.args.h c.args.table.now c.args.c = place_is c.args.h c.args.table.now c.args.c t.word _ c.word_of.ensures _ _ _ c.in-Ok.is c.decode.ensures c.in-Sparse.is in
    let i = inside_same c.args.h _ _ e t.row in (
      record { sizes = t.sizes; in_pages = t.in_pages; in_rows = t.in_rows; row = i.0; members = i.1 },
      (page_there c.args.h c.args.p _ _ e t.page) refl,
      t.over,
      t.chunk,
    )

pub returns-in-Absent : goal.returns-in-Absent
returns-in-Absent c =
    let g = c.args in
    λ bs. (let g = c.args in (blank_paged g.h g.c g.p g.pages.now g.rows.now bs g.table.now _ c.enter_page.ensures) ∙ ap (into_page g.h ((mem c.args.pages.now c.args.rows.now bs c.args.table.now)) g.c g.p) ((place_is c.args.h c.args.table.now c.args.c c.requires.word _ c.word_of.ensures _ _ Absent c.in-Ok.is c.decode.ensures c.in-Absent.is)))

pub returns-in-Sparse : goal.returns-in-Sparse
returns-in-Sparse c =
    λ bs. (let g = c.args in (c.turn_row.ensures bs) ∙ ap (into_page g.h ((mem c.args.pages.now c.args.rows.now bs c.args.table.now)) g.c g.p) ((place_is c.args.h c.args.table.now c.args.c c.requires.word _ c.word_of.ensures _ _ (Sparse _ _) c.in-Ok.is c.decode.ensures c.in-Sparse.is)))

pub returns-in-Dense : goal.returns-in-Dense
returns-in-Dense c =
    λ bs. (let g = c.args in refl ∙ ap (into_page g.h ((mem c.args.pages.now c.args.rows.now bs c.args.table.now)) g.c g.p) ((place_is c.args.h c.args.table.now c.args.c c.requires.word _ c.word_of.ensures _ _ (Dense _) c.in-Ok.is c.decode.ensures c.in-Dense.is)))

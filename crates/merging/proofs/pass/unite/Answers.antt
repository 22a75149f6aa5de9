-- What the tests left holds after the first pass too. Assumes nothing.
use Rattle.merging.proofs.Ways.{second_sound}
use Rattle.merging.proofs.pass.unite.Goals as goal

pub sparse_pass-requires : goal.sparse_pass-requires
sparse_pass-requires c =
    let a = c.args in
    let s = second_sound c.read-h.result a.pages.now a.rows.now a.table.now a.spages.now a.srows.now a.stable.now c.requires c.read-h.ensures _ _ _ c.dense_pass.ensures in
    (s.0, s.1, c.read-g.ensures)

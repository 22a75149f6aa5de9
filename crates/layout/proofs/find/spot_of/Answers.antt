-- By the word's place. Assumes nothing.
use native.Mathlib.Omega.{arith}
use mathlib.Core.Path.{◌∙◌}
use lib.ListN.{length}
use Rattle.layout.specs.Sizes.{header_at}
use Rattle.layout.proofs.Places.{sparse_small}
use Rattle.layout.proofs.Spots.{spot_way}
use Rattle.layout.proofs.find.spot_of.Goals as goal

pub row_spot-requires : goal.row_spot-requires
row_spot-requires c = let s = sparse_small c.args.w _ _ _ c.decode.ensures
    c.in-Sparse.is in
    omega (arith, s.0)

pub returns-in-Absent : goal.returns-in-Absent
returns-in-Absent c =
    let a = c.args in
    spot_way (header_at a.table.now) (length a.pages.now) (length a.rows.now) a.w _ _ c.decode.ensures c.in-Absent.is

pub returns-in-Sparse : goal.returns-in-Sparse
returns-in-Sparse c =
    let a = c.args in
    c.row_spot.ensures ∙ spot_way (header_at a.table.now) (length a.pages.now) (length a.rows.now) a.w _ _ c.decode.ensures
    c.in-Sparse.is

pub returns-in-Dense : goal.returns-in-Dense
returns-in-Dense c =
    let a = c.args in
    c.page_spot.ensures ∙ spot_way (header_at a.table.now) (length a.pages.now) (length a.rows.now) a.w _ _ c.decode.ensures
    c.in-Dense.is

-- The union is made beside the row, then copied over it. Assumes nothing.
use native.Mathlib.Omega.{arith}
use lib.ListN.{take, length-take}
use Rattle.sparse.specs.Union.{union}
use Rattle.merge_slots.proofs.Lent.{front_long, united_all}
use Rattle.merge_slots.proofs.row.unite.Goals as goal

pub slice_bounds-both-end : goal.slice_bounds-both-end
slice_bounds-both-end c =
    let g = c.args in let e = c.union_sorted-n.ensures in front_long (union (take g.l g.row.now) (take g.k g.other.now)) g.row.now _ _ c.union_sorted-n.result e.0 e.1

pub slice_bounds-copy_from_slice-end-then-n-row-2 : goal.slice_bounds-copy_from_slice-end-then-n-row-2
slice_bounds-copy_from_slice-end-then-n-row-2 c =
    let g = c.args in
    let e = c.union_sorted-n.ensures in
    let l = front_long (union (take g.l g.row.now) (take g.k g.other.now)) g.row.now _ _ c.union_sorted-n.result e.0 e.1 in
    omega (arith, length-take c.union_sorted-n.result c.union_sorted-n.new.out)

pub copy_from_slice-requires : goal.copy_from_slice-requires
copy_from_slice-requires c =
    let g = c.args in
    let e = c.union_sorted-n.ensures in
    let l = front_long (union (take g.l g.row.now) (take g.k g.other.now)) g.row.now _ _ c.union_sorted-n.result e.0 e.1 in
    omega (arith, length-take c.union_sorted-n.result c.union_sorted-n.new.out, length-take c.union_sorted-n.result g.row.now)

pub returns-then-n-row : goal.returns-then-n-row
returns-then-n-row c =
    let g = c.args in
    let e = c.union_sorted-n.ensures in
    (e.0, united_all (union (take g.l g.row.now) (take g.k g.other.now)) g.row.now _ _ c.union_sorted-n.result e.0 e.1 c.if-n-row.true _ c.copy_from_slice.ensures.after)

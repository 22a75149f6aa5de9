-- The row as a part of its pool, with the front of a row of the other. Assumes nothing.
use mathlib.Core.Path.{refl, ap, ◌∙◌}
use mathlib.Core.List.{List}
use Prim.Native.Nat.{ℕ, ◌+◌, ◌-◌, ◌*◌}
use native.Mathlib.Omega.{arith}
use lib.ListN.{length, take, drop}
use Rattle.sparse.specs.Edit.{copied}
use Rattle.layout.specs.Places.{row_part}
use Rattle.layout.proofs.Parts.{slot_in}
use Rattle.layout.proofs.Lent.{length_lent}
use Rattle.layout_laws.proofs.Sizes.{part_length}
use Rattle.steps.proofs.Lent.{put_lent}
use Rattle.merge_slots.proofs.row.copy.Goals as goal

pub copy-requires : goal.copy-requires
copy-requires c =
    let g = c.args in
    let s = slot_in g.h.m g.h.r g.r (length g.rows.now) c.requires.1 c.requires.0.in_rows in
    let t = slot_in g.g.m g.g.r g.i (length g.srows.now) c.requires.2 c.requires.0.from_rows in (
      omega (arith, ap length c.part.ensures ∙ part_length g.srows.now (g.i * g.g.m) g.g.m t, c.requires.3),
      omega (arith, length_lent g.rows.now c.row_at-a.result g.h.m (omega (arith, s, c.row_at-a.ensures)), c.requires.3, c.requires.0.same),
    )

pub returns : goal.returns
returns c =
    let g = c.args in
    put_lent g.rows.now c.row_at-a.result g.h.m (g.r * g.h.m) g.h.m c.row_at-a.ensures refl
    (λ (u : List ℕ). copied (row_part g.g g.srows.now g.i) u g.k) _
    (c.copy.ensures ∙ ap (λ (v : List ℕ). copied v (take (c.row_at-a.result + g.h.m - c.row_at-a.result) (drop c.row_at-a.result g.rows.now)) g.k) c.part.ensures)

-- The row as a part of the pool, with its first offset. Assumes nothing.
use mathlib.Core.Path.{refl}
use mathlib.Core.List.{List}
use Prim.Native.Nat.{ℕ}
use Rattle.sparse.specs.Edit.{inserted_at}
use Rattle.steps.proofs.Lent.{put_lent}
use Rattle.insert_writes.proofs.begin_row.Goals as goal

pub returns : goal.returns
returns c =
    let a = c.args in
    put_lent a.rows.now _ _ _ _ c.row_at-a.ensures refl
    (λ (w : List ℕ). inserted_at w 0 0 a.o) _ c.insert_at.ensures

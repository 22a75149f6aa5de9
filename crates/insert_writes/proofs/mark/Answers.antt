-- The part, put back, and what its bit was. Assumes nothing.
use mathlib.Core.Path.{refl, ◌∙◌, ap}
use mathlib.Core.Bool.{not}
use mathlib.Core.List.{List}
use Prim.Native.Nat.{ℕ}
use lib.ListN.{take, drop}
use Rattle.dense.specs.Bits.{is_set, with_bit}
use Rattle.layout.proofs.Lent.{span}
use Rattle.steps.proofs.Lent.{put_lent}
use Rattle.insert_writes.proofs.mark.Goals as goal

pub returns : goal.returns
returns c =
    let a = c.args in
    let i = c.insert.ensures in
    (i.0 ∙ ap (λ (k : ℕ). not (is_set (take k (drop a.a a.pages.now)) a.o)) (span a.a a.n), put_lent a.pages.now a.a a.n a.a a.n refl refl (λ (w : List ℕ). with_bit w a.o) _ i.1)

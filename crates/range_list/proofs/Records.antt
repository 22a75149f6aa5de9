-- A turn over a lent list of records: record i gets the mark that its ends are tested for, and keeps its ends. Assumes nothing.
use mathlib.Core.Path.{◌≡◌, ◌∙◌, ap}
use mathlib.Core.Bool.{Bool}
use mathlib.Core.List.{List}
use Prim.Native.Nat.{ℕ, ◌+◌, ◌<◌}
use lib.ListN.{length, get_or, set}
use lib.IntN.{ℤ}
use Rattle.document.specs.RangeList.{marked, marked_by}
use Rattle.document.specs.declared.range.Range.{Range}
use Rattle.range_list.proofs.Upto.{upto, upto_step}

pub one_marked : (f : ℤ → ℤ → Bool) (rs ys : List Range) (i : ℕ) (d : Range) (b : Bool) → i < length rs → ys ≡ upto (marked_by f) i rs → b ≡ f (get_or ys i d).low (get_or ys i d).high → set ys i (marked (get_or ys i d) b) ≡ upto (marked_by f) (i + 1) rs
one_marked f rs ys i d b h e q =
    ap (λ (m : Bool). set ys i (marked (get_or ys i d) m)) q
    ∙ ap (λ (zs : List Range). set zs i (marked_by f (get_or zs i d))) e
    ∙ upto_step (marked_by f) i rs d h

-- What a test that was passed in said of two ends, as the machine reads them. Assumes nothing.
use mathlib.Core.Path.{◌≡◌, subst}
use mathlib.Core.Bool.{Bool}
use Prim.Native.Nat.{◌^◌, ◌<◌}
use lib.IntN.{ℤ}
use lib.Signed.{mag}
use mir.Syntax.{w64}
use mir.Val.{SFits, of_z, to_z}
use mir.Facts.{to_z-of_z}
use Rattle.range_list.specs.Marks.{Tells}

pub told : (P : ℤ → ℤ → Bool → Type 0) (f : ℤ → ℤ → Bool) → Tells P f → (lo hi : ℤ) → mag lo < 2 ^ 63 → mag hi < 2 ^ 63
    → (b : Bool) → P (to_z w64 (of_z w64 lo)) (to_z w64 (of_z w64 hi)) b → b ≡ f lo hi
told P f t lo hi l h b p =
    let u : SFits w64 lo = record { sfits = l } in
    let v : SFits w64 hi = record { sfits = h } in
    t lo hi b u v (subst (λ z. P lo z b) (to_z-of_z v) (subst (λ z. P z (to_z w64 (of_z w64 hi)) b) (to_z-of_z u) p))

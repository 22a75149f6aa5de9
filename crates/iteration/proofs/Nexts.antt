-- The id after another, as the machine forms it, and that no member lies past the largest. Assumes nothing.
use mathlib.Core.Path.{◌≡◌, refl, sym, ◌∙◌, ap, ap₂, subst}
use mathlib.Core.Bool.{true, false}
use Prim.Native.Nat.{ℕ, zero, suc, ◌-◌, ◌^◌, ◌<◌}
use native.Mathlib.Omega.{arith}
use lib.Dec.{lit<}
use lib.IntN.{ℤ, pos, negsuc, suc_ℤ, ◌+ℤ◌, +ℤ_one}
use mir.Syntax.{w64}
use mir.Val.{SFits, of_z, to_z}
use mir.Facts.{to_z-of_z, to_z_pos}
use Rattle.layout.specs.Mem.{Mem}
use Rattle.calls.specs.Counts.{entries_ok}
use Rattle.calls.specs.Range.{any_by}
use Rattle.scan.proofs.Ranges.{any_empty}
use Rattle.document.specs.Results.{Truth}
use Rattle.std.specs.Prelude.{Ok}

-- 2 ^ 63 - 1 as a word
abbrev pub largest : ℕ
largest = 9223372036854775807

suc_fits : (z : ℤ) → SFits w64 z → (of_z w64 z ≡ largest → ⊥) → SFits w64 (suc_ℤ z)
suc_fits (pos n) f h = record { sfits = lt_of_ne n f.sfits h }
  where
    lt_of_ne : (n : ℕ) → n < 2 ^ 63 → (n ≡ largest → ⊥) → suc n < 2 ^ 63
    lt_of_ne n l h = omega arith
suc_fits (negsuc zero) f h = record { sfits = lit< tt }
suc_fits (negsuc (suc n)) f h = record { sfits = let l : suc n < 2 ^ 63 = f.sfits in omega arith }

module _ (z : ℤ) (f : SFits w64 z) where
  machine_is : to_z w64 (of_z w64 z) +ℤ pos 1 ≡ suc_ℤ z
  machine_is = ap (λ (k : ℤ). k +ℤ pos 1) (to_z-of_z f) ∙ +ℤ_one z

  module _ (h : of_z w64 z ≡ largest → ⊥) where
    pub next_fits : SFits w64 (to_z w64 (of_z w64 z) +ℤ pos 1)
    next_fits = subst (SFits w64) (sym machine_is) (suc_fits z f h)

    pub next_is : to_z w64 (of_z w64 (to_z w64 (of_z w64 z) +ℤ pos 1)) ≡ suc_ℤ z
    next_is = ap (λ (k : ℤ). to_z w64 (of_z w64 k)) machine_is ∙ to_z-of_z (suc_fits z f h)

    pub past_is : (x : Mem) (r : Truth) → r ≡ any_by x (to_z w64 (of_z w64 (to_z w64 (of_z w64 z) +ℤ pos 1))) (to_z w64 largest) → r ≡ any_by x (suc_ℤ z) (pos (2 ^ 63 - 1))
    past_is x r e = e ∙ ap₂ (any_by x) next_is (to_z_pos w64 (lit< tt))

none_after : (x : Mem) → entries_ok x.table ≡ true → (z : ℤ) → SFits w64 z → of_z w64 z ≡ largest → Ok false ≡ any_by x (suc_ℤ z) (pos (2 ^ 63 - 1))
none_after x ok (pos n) f e = any_empty x ok (pos (suc n)) (suc n) (2 ^ 63 - 1) refl (omega (arith, e))
none_after x ok (negsuc n) f e = absurd (let l : n < 2 ^ 63 = f.sfits in omega (arith, e))

module _ (x : Mem) (ok : entries_ok x.table ≡ true) (z : ℤ) (f : SFits w64 z) where
  pub none_past : of_z w64 z ≡ largest → Ok false ≡ any_by x (suc_ℤ z) (pos (2 ^ 63 - 1))
  none_past e = none_after x ok z f e

  -- so that where there is one, the id is not the largest
  pub some_past : (r : Truth) → r ≡ any_by x (suc_ℤ z) (pos (2 ^ 63 - 1)) → r ≡ Ok true → of_z w64 z ≡ largest → ⊥
  some_past r e g h =
      let n : Ok false ≡ Ok true = none_past h ∙ (sym e ∙ g) in
      let q : ◌≡◌ {A = ℕ} 0 1 = cc in
      omega arith

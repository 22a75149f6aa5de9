-- Slots of one width w, laid end to end: place j of slot p is p * w + j. Chunks of ids, pages and rows all lie so. Assumes nothing.
use mathlib.Core.Path.{◌≡◌, sym, ◌∙◌, ap}
use Prim.Native.Nat.{ℕ, suc, ◌+◌, ◌*◌, ◌/◌, ◌%◌, ◌≤◌, ◌<◌}
use native.Mathlib.Nat.{add-zero, div-eq_of_lt, mod-eq_of_lt, mul-add-div_right, mul-add-mod_self_right, mul-le-mul_right, suc-mul}
use native.Mathlib.Omega.{arith}

-- places of a lower slot are lower
pub slot_less : (w p q j : ℕ) → j < w → p < q → p * w + j < q * w
slot_less w p q j h l = let m : suc p * w ≤ q * w = mul-le-mul_right w l in omega (arith, suc-mul p w)

-- a slot is within the pool
pub slot_within : (w p n : ℕ) → p < n → p * w + w ≤ n * w
slot_within w p n l = let m : suc p * w ≤ n * w = mul-le-mul_right w l in omega (arith, suc-mul p w)

module _ (w p j : ℕ) (h : j < w) where
  pub slot_of : (p * w + j) / w ≡ p
  slot_of =
      let z : 0 < w = omega arith in
      mul-add-div_right z p j ∙ ap (λ (k : ℕ). p + k) (div-eq_of_lt h) ∙ add-zero p

  pub slot_place : (p * w + j) % w ≡ j
  slot_place = mul-add-mod_self_right p w j ∙ mod-eq_of_lt h

-- one slot, one place: two slots share none
pub slot_once : (w p q j k : ℕ) → j < w → k < w → p * w + j ≡ q * w + k → (p ≡ q) × (j ≡ k)
slot_once w p q j k h l e =
    (sym (slot_of w p j h) ∙ ap (λ (n : ℕ). n / w) e ∙ slot_of w q k l, sym (slot_place w p j h) ∙ ap (λ (n : ℕ). n % w) e ∙ slot_place w q k l)

-- A list of which the first i elements have been changed by f: what a loop that goes through a lent list of records holds. Assumes nothing.
use mathlib.Core.Path.{◌≡◌, refl, ap, subst⁻¹}
use Prim.Native.Nat.{ℕ, zero, suc, ◌+◌, ◌*◌, ◌<◌, ◌^◌}
use native.Mathlib.Nat.{not-suc-le-zero, le_of_suc-le-suc}
use native.Mathlib.Numerals.{add-one}
use native.Mathlib.Omega.{arith}
use mathlib.Core.List.{List, [], ◌∷◌, map}
use lib.ListN.{length, get_or, set}

module _ {X : Type 0} (f : X → X) where
  abbrev pub upto : ℕ → List X → List X
  upto zero l = l
  upto (suc i) [] = []
  upto (suc i) (x ∷ l) = f x ∷ upto i l

  pub upto_length : (i : ℕ) (l : List X) → length (upto i l) ≡ length l
  upto_length zero l = refl
  upto_length (suc i) [] = refl
  upto_length (suc i) (x ∷ l) = ap suc (upto_length i l)

  steps : (i : ℕ) (l : List X) (d : X) → i < length l → set (upto i l) i (f (get_or (upto i l) i d)) ≡ upto (suc i) l
  steps i [] d h = absurd (not-suc-le-zero h)
  steps zero (x ∷ l) d h = refl
  steps (suc i) (x ∷ l) d h = ap (λ (r : List X). f x ∷ r) (steps i l d (le_of_suc-le-suc h))

  pub upto_step : (i : ℕ) (l : List X) (d : X) → i < length l → set (upto i l) i (f (get_or (upto i l) i d)) ≡ upto (i + 1) l
  upto_step i l d h = subst⁻¹ (λ (j : ℕ). set (upto i l) i (f (get_or (upto i l) i d)) ≡ upto j l) (add-one i) (steps i l d h)

  pub upto_all : (l : List X) → upto (length l) l ≡ map f l
  upto_all [] = refl
  upto_all (x ∷ l) = ap (λ (r : List X). f x ∷ r) (upto_all l)

-- the offset of element i of n, of 24 bytes each, is a usize, where the elements have room
pub bytes_fit : (n i : ℕ) → i < n → n * 24 < 2 ^ 63 → i * 24 < 2 ^ 64
bytes_fit n i l r = omega arith

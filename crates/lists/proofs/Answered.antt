-- Answers set one after the other: the first i are those of the first i ids. Assumes nothing.
use mathlib.Core.Path.{◌≡◌, refl, sym, ap, ap₂, ◌∙◌}
use mathlib.Core.List.{List, [], ◌∷◌}
use Prim.Native.Nat.{ℕ, zero, suc, ◌+◌, ◌≤◌, ◌<◌, min}
use native.Mathlib.Nat.{not-suc-le-zero, le_of_suc-le-suc}
use native.Mathlib.Numerals.{add-one}
use native.Mathlib.Omega.{arith}
use lib.IntN.{ℤ, pos}
use lib.ListN.{length, get_or, set, take}
use lib.Seq.{take-nil}
use Rattle.lists.specs.Lists.{answered}

module _ {A : Type 0} (f : ℤ → A) where
  pub answered_length : (zs : List ℤ) (ns : List A) → length (answered f zs ns) ≡ length ns
  unfolding answered
  answered_length [] ns = refl
  answered_length (z ∷ zs) [] = refl
  answered_length (z ∷ zs) (n ∷ ns) = ap suc (answered_length zs ns)

  pub answered_none : (zs : List ℤ) (ns : List A) → answered f (take 0 zs) ns ≡ ns
  unfolding answered
  answered_none zs ns = refl

  steps : (i : ℕ) (zs : List ℤ) (ns : List A) → i < length zs → i < length ns → set (answered f (take i zs) ns) i (f (get_or zs i (pos 0))) ≡ answered f (take (suc i) zs) ns
  unfolding answered
  steps i [] ns a b = absurd (not-suc-le-zero a)
  steps i (z ∷ zs) [] a b = absurd (not-suc-le-zero b)
  steps zero (z ∷ zs) (n ∷ ns) a b = refl
  steps (suc i) (z ∷ zs) (n ∷ ns) a b = ap (λ (r : List A). f z ∷ r) (steps i zs ns (le_of_suc-le-suc a) (le_of_suc-le-suc b))

  -- one more of them
  pub answered_turn : (i : ℕ) (zs : List ℤ) (ns l : List A) (k : A) → l ≡ answered f (take i zs) ns → i < length zs → i < length ns → k ≡ f (get_or zs i (pos 0)) → set l i k ≡ answered f (take (i + 1) zs) ns
  answered_turn i zs ns l k e t u q =
      ap₂ (λ (r : List A) (v : A). set r i v) e q ∙ steps i zs ns t u ∙ ap (λ (j : ℕ). answered f (take j zs) ns) (sym (add-one i))

  -- past the shorter list there is none
  pub answered_all : (n : ℕ) (zs : List ℤ) (ns : List A) → min (length zs) (length ns) ≤ n → answered f (take n zs) ns ≡ answered f zs ns
  unfolding answered
  answered_all n [] ns h = ap (λ (l : List ℤ). answered f l ns) (take-nil n)
  answered_all zero (z ∷ zs) [] h = refl
  answered_all (suc n) (z ∷ zs) [] h = refl
  answered_all zero (z ∷ zs) (k ∷ ns) h = absurd (omega arith)
  answered_all (suc n) (z ∷ zs) (k ∷ ns) h = ap (λ (r : List A). f z ∷ r) (answered_all n zs ns (omega arith))

-- ---- each of them

module _ (f : ℤ → ℕ) where
  pub answered_at : (i : ℕ) (zs : List ℤ) (ns : List ℕ) → i < length zs → i < length ns → get_or (answered f zs ns) i 0 ≡ f (get_or zs i (pos 0))
  unfolding answered
  answered_at i [] ns a b = absurd (not-suc-le-zero a)
  answered_at i (z ∷ zs) [] a b = absurd (not-suc-le-zero b)
  answered_at zero (z ∷ zs) (n ∷ ns) a b = refl
  answered_at (suc i) (z ∷ zs) (n ∷ ns) a b = answered_at i zs ns (le_of_suc-le-suc a) (le_of_suc-le-suc b)

  -- answers past the ids stay
  pub answered_past : (i : ℕ) (zs : List ℤ) (ns : List ℕ) → length zs ≤ i → get_or (answered f zs ns) i 0 ≡ get_or ns i 0
  unfolding answered
  answered_past i [] ns a = refl
  answered_past i (z ∷ zs) [] a = refl
  answered_past zero (z ∷ zs) (n ∷ ns) a = absurd (not-suc-le-zero a)
  answered_past (suc i) (z ∷ zs) (n ∷ ns) a = answered_past i zs ns (le_of_suc-le-suc a)

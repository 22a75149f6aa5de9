-- The list of a plan's boundaries: one fewer than the parts, boundary k + 1 at place k. Assumes nothing.
use mathlib.Core.Path.{◌≡◌, refl, sym, ap, ◌∙◌}
use mathlib.Core.Logic.{◌⊎◌, inl, inr}
use mathlib.Core.List.{[], ◌∷◌, ◌++◌}
use Prim.Native.Nat.{ℕ, zero, suc, ◌-◌, ◌<◌}
use native.Mathlib.Omega.{arith}
use lib.ListN.{length, get_or, length-append, get_or-append}
use lib.Seq.{get_or_at}
use Rattle.sums.specs.Ids.{Ids, total}
use Rattle.sums.specs.Cuts.{parts, boundary, boundaries_to, boundaries}
use Rattle.sums.proofs.Sums.{last_or}

module _ (P : Ids) (S : ℕ) where
  length_to : (n : ℕ) → length (boundaries_to P S n) ≡ n
  unfolding boundaries_to
  length_to zero = refl
  length_to (suc n) = let e = length_to n in omega (arith, length-append (boundaries_to P S n) (boundary P S (suc n) ∷ []))

  pub boundaries_length : length (boundaries P S) ≡ parts (total P) S - 1
  boundaries_length = length_to (parts (total P) S - 1)

  boundary_to : (n k : ℕ) → k < n → get_or (boundaries_to P S n) k 0 ≡ boundary P S (suc k)
  unfolding boundaries_to
  boundary_to zero k l = absurd (omega arith)
  boundary_to (suc n) k l = go (last_or k n l) (boundary_to n k)
    where
      go : (k < n) ⊎ (k ≡ n) → (k < n → get_or (boundaries_to P S n) k 0 ≡ boundary P S (suc k)) → get_or (boundaries_to P S n ++ (boundary P S (suc n) ∷ [])) k 0 ≡ boundary P S (suc k)
      go (inl m) r = get_or-append (boundaries_to P S n) (boundary P S (suc n) ∷ []) 0 k (omega (arith, length_to n)) ∙ r m
      go (inr e) r = get_or_at (boundaries_to P S n) (boundary P S (suc n)) [] 0 k (length_to n ∙ sym e) ∙ ap (λ (j : ℕ). boundary P S (suc j)) (sym e)

  pub boundaries_at : (k : ℕ) → suc k < parts (total P) S → get_or (boundaries P S) k 0 ≡ boundary P S (suc k)
  boundaries_at k l = boundary_to (parts (total P) S - 1) k (omega arith)

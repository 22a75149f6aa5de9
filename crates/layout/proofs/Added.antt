-- A new overflow entry: what the table holds below it, in it, above it. Assumes nothing.
use mathlib.Core.Path.{◌≡◌, refl, ap, ◌∙◌}
use mathlib.Core.Logic.{◌⊎◌, inl, inr, ◌≢◌}
use mathlib.Core.List.{List, ◌∷◌, ◌++◌}
use mathlib.Core.Bool.{Bool, true, false}
use Prim.Native.Nat.{ℕ, suc, ◌+◌, ◌-◌, ◌*◌, ◌≤◌, ◌<◌}
use native.Mathlib.Omega.{arith}
use lib.ListN.{length, get_or, set, take, drop, length-set, length-drop}
use lib.Seq.{get_or-set_same, get_or-set_other, length-take-le, get_or-take, get_or-drop}
use lib.Dec.{eqb}
use borrow.Author.Tests.{eqb-true, eqb-false}
use Rattle.layout.specs.Sizes.{over_at, over_count}
use Rattle.layout.specs.Writes.{put_part, added}
use Rattle.document.specs.declared.sizes.Sizes.{Sizes}
use Rattle.layout.proofs.Parts.{length_put, put_in, put_off}

pub same_or : (a b : ℕ) → (a ≡ b) ⊎ (a ≢ b)
same_or a b = go (eqb a b) refl
  where
    go : (t : Bool) → eqb a b ≡ t → (a ≡ b) ⊎ (a ≢ b)
    go true e = inl (eqb-true a b e)
    go false e = inr (eqb-false a b e)

-- the entries from k on, behind the new one
moved : Sizes → List ℕ → ℕ → ℕ → ℕ → List ℕ
moved h t c w k = c ∷ w ∷ 0 ∷ take (3 * (over_count t - k)) (drop (over_at h k) t)

module _ (h : Sizes) (t : List ℕ) (c w k : ℕ) (le : k ≤ over_count t) (room : over_at h (over_count t + 1) ≤ length t) where
  pushed : List ℕ
  pushed = put_part t (over_at h k) (3 * (over_count t - k) + 3) (moved h t c w k)

  added_is : added h t c w k ≡ set pushed 7 (over_count t + 1)
  unfolding added pushed put_part moved
  added_is =
      let e : over_at h (over_count t + 1) ≡ over_at h k + (3 * (over_count t - k) + 3) = omega arith in
      ap (λ (i : ℕ). set (take (over_at h k) t ++ (c ∷ w ∷ 0 ∷ (take (3 * (over_count t - k)) (drop (over_at h k) t) ++ drop i t))) 7 (over_count t + 1)) e

  long : length (moved h t c w k) ≡ 3 * (over_count t - k) + 3
  unfolding moved
  long =
      let d = length-drop (over_at h k) t in
      let e = length-take-le (3 * (over_count t - k)) (drop (over_at h k) t) (omega arith) in
      omega arith

  whole : over_at h k + (3 * (over_count t - k) + 3) ≤ length t
  whole = omega arith

  read : (i : ℕ) → i ≢ 7 → get_or (added h t c w k) i 0 ≡ get_or pushed i 0
  read i d = ap (λ (u : List ℕ). get_or u i 0) added_is ∙ get_or-set_other pushed 7 i (over_count t + 1) 0 d

  pub added_length : length (added h t c w k) ≡ length t
  unfolding pushed
  added_length = ap length added_is ∙ length-set pushed 7 (over_count t + 1) ∙ length_put t (over_at h k) (3 * (over_count t - k) + 3) (moved h t c w k) long whole

  pub added_over : over_count (added h t c w k) ≡ over_count t + 1
  unfolding pushed
  added_over =
      ap over_count added_is
      ∙ get_or-set_same pushed 7 (over_count t + 1) 0 (let n = length_put t (over_at h k) (3 * (over_count t - k) + 3) (moved h t c w k) long whole in omega arith)

  pub added_low : (i : ℕ) → i ≢ 7 → i < over_at h k → get_or (added h t c w k) i 0 ≡ get_or t i 0
  unfolding pushed
  added_low i d l = read i d ∙ put_off t (over_at h k) (3 * (over_count t - k) + 3) (moved h t c w k) long whole i (inl l)

  pub added_high : (i : ℕ) → over_at h (over_count t + 1) ≤ i → get_or (added h t c w k) i 0 ≡ get_or t i 0
  unfolding pushed
  added_high i l = read i (omega arith) ∙ put_off t (over_at h k) (3 * (over_count t - k) + 3) (moved h t c w k) long whole i (inr (omega arith))

  added_in : (j i : ℕ) → i ≡ over_at h k + j → j < 3 * (over_count t - k) + 3 → get_or (added h t c w k) i 0 ≡ get_or (moved h t c w k) j 0
  unfolding pushed
  added_in j i e l =
      read i (omega arith) ∙ ap (λ (n : ℕ). get_or pushed n 0) e ∙ put_in t (over_at h k) (3 * (over_count t - k) + 3) (moved h t c w k) long whole j l

  pub added_chunk : get_or (added h t c w k) (over_at h k) 0 ≡ c
  unfolding moved
  added_chunk = added_in 0 (over_at h k) (omega arith) (omega arith)

  pub added_word : get_or (added h t c w k) (over_at h k + 1) 0 ≡ w
  unfolding moved
  added_word = added_in 1 (over_at h k + 1) (omega arith) (omega arith)

  pub added_prefix : get_or (added h t c w k) (over_at h k + 2) 0 ≡ 0
  unfolding moved
  added_prefix = added_in 2 (over_at h k + 2) (omega arith) (omega arith)

  -- each element of the later entries is three further on
  pub added_up : (i n : ℕ) → over_at h k ≤ i → i < over_at h (over_count t) → n ≡ i + 3 → get_or (added h t c w k) n 0 ≡ get_or t i 0
  unfolding moved
  added_up i n a b q =
      let j = i - over_at h k in
      let e : n ≡ over_at h k + suc (suc (suc j)) = omega arith in
      let g : over_at h k + j ≡ i = omega arith in
      added_in (suc (suc (suc j))) n e (omega arith)
      ∙ get_or-take (3 * (over_count t - k)) (drop (over_at h k) t) j 0 (omega arith)
      ∙ get_or-drop (over_at h k) t j 0
      ∙ ap (λ (i : ℕ). get_or t i 0) g

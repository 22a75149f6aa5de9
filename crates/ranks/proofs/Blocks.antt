-- Block counts written page by page: what each place then holds, and that nothing past them changes. Assumes nothing.
use mathlib.Core.Path.{◌≡◌, refl, sym, ap, ◌∙◌}
use mathlib.Core.Logic.{◌⊎◌, inl, inr, ◌≢◌}
use mathlib.Core.List.{List}
use Prim.Native.Nat.{ℕ, zero, suc, ◌+◌, ◌*◌, ◌≤◌, ◌<◌}
use native.Mathlib.Nat.{suc-mul}
use native.Mathlib.Omega.{arith}
use lib.ListN.{length, get_or, set, length-set}
use lib.Seq.{get_or-set_same, get_or-set_other}
use Rattle.sums.proofs.Sums.{last_or}
use Rattle.dense.specs.Bits.{bits_to}
use Rattle.layout.specs.Sizes.{blocks_of}
use Rattle.layout.specs.Places.{page_part}
use Rattle.document.specs.declared.sizes.Sizes.{Sizes}
use Rattle.layout_laws.proofs.Sizes.{slot_inside}
use Rattle.ranks.specs.Form.{blocked, blocked_to}

module _ (h : Sizes) (pages : List ℕ) where
  -- ---- one page's

  module _ (blocks : List ℕ) (p : ℕ) where
    pub blocked_length : (n : ℕ) → length (blocked h pages blocks p n) ≡ length blocks
    unfolding blocked
    blocked_length zero = refl
    blocked_length (suc n) = length-set (blocked h pages blocks p n) (p * blocks_of h + n) (bits_to (page_part h pages p) (512 * n)) ∙ blocked_length n

    pub blocked_other : (n i : ℕ) → ((b : ℕ) → b < n → i ≢ p * blocks_of h + b) → get_or (blocked h pages blocks p n) i 0 ≡ get_or blocks i 0
    unfolding blocked
    blocked_other zero i d = refl
    blocked_other (suc n) i d =
        get_or-set_other (blocked h pages blocks p n) (p * blocks_of h + n) i (bits_to (page_part h pages p) (512 * n)) 0 (d n (omega arith))
        ∙ blocked_other n i (λ b l. d b (omega arith))

    pub blocked_at : (n b : ℕ) → b < n → p * blocks_of h + b < length blocks → get_or (blocked h pages blocks p n) (p * blocks_of h + b) 0 ≡ bits_to (page_part h pages p) (512 * b)
    unfolding blocked
    blocked_at zero b l m = absurd (omega arith)
    blocked_at (suc n) b l m = go (last_or b n l) (λ k. blocked_at n b k m)
      where
        go : (b < n) ⊎ (b ≡ n) → (b < n → get_or (blocked h pages blocks p n) (p * blocks_of h + b) 0 ≡ bits_to (page_part h pages p) (512 * b))
            → get_or (set (blocked h pages blocks p n) (p * blocks_of h + n) (bits_to (page_part h pages p) (512 * n))) (p * blocks_of h + b) 0 ≡ bits_to (page_part h pages p) (512 * b)
        go (inl k) r = get_or-set_other (blocked h pages blocks p n) (p * blocks_of h + n) (p * blocks_of h + b) (bits_to (page_part h pages p) (512 * n)) 0 (omega arith) ∙ r k
        go (inr q) r =
            let s = blocked_length n in
            let a = ap (λ (k : ℕ). p * blocks_of h + k) q in
            ap (λ (k : ℕ). get_or (set (blocked h pages blocks p n) (p * blocks_of h + n) (bits_to (page_part h pages p) (512 * n))) k 0) a
            ∙ (get_or-set_same (blocked h pages blocks p n) (p * blocks_of h + n) (bits_to (page_part h pages p) (512 * n)) 0 (omega arith) ∙ ap (λ (k : ℕ). bits_to (page_part h pages p) (512 * k)) (sym q))

  -- ---- all pages'

  module _ (blocks : List ℕ) where
    pub blocks_length : (n : ℕ) → length (blocked_to h pages blocks n) ≡ length blocks
    unfolding blocked_to
    blocks_length zero = refl
    blocks_length (suc n) = blocked_length (blocked_to h pages blocks n) n (blocks_of h) ∙ blocks_length n

    pub blocks_past : (n i : ℕ) → n * blocks_of h ≤ i → get_or (blocked_to h pages blocks n) i 0 ≡ get_or blocks i 0
    unfolding blocked_to
    blocks_past zero i l = refl
    blocks_past (suc n) i l =
        let s = suc-mul n (blocks_of h) in
        blocked_other (blocked_to h pages blocks n) n (blocks_of h) i (λ b k. omega arith) ∙ blocks_past n i (omega arith)

    pub blocks_at : (n p b : ℕ) → p < n → b < blocks_of h → n * blocks_of h ≤ length blocks → get_or (blocked_to h pages blocks n) (p * blocks_of h + b) 0 ≡ bits_to (page_part h pages p) (512 * b)
    unfolding blocked_to
    blocks_at zero p b l m k = absurd (omega arith)
    blocks_at (suc n) p b l m k = go (last_or p n l) (λ i. blocks_at n p b i m (let s = suc-mul n (blocks_of h) in omega arith))
      where
        go : (p < n) ⊎ (p ≡ n) → (p < n → get_or (blocked_to h pages blocks n) (p * blocks_of h + b) 0 ≡ bits_to (page_part h pages p) (512 * b))
            → get_or (blocked h pages (blocked_to h pages blocks n) n (blocks_of h)) (p * blocks_of h + b) 0 ≡ bits_to (page_part h pages p) (512 * b)
        go (inl i) r = let s = slot_inside p n (blocks_of h) i in blocked_other (blocked_to h pages blocks n) n (blocks_of h) (p * blocks_of h + b) (λ c j. omega arith) ∙ r i
        go (inr q) r =
            let s = suc-mul n (blocks_of h) in
            let a = blocks_length n in
            ap (λ (i : ℕ). get_or (blocked h pages (blocked_to h pages blocks n) n (blocks_of h)) (i * blocks_of h + b) 0) q
            ∙ (blocked_at (blocked_to h pages blocks n) n (blocks_of h) b m (omega arith) ∙ ap (λ (i : ℕ). bits_to (page_part h pages i) (512 * b)) (sym q))

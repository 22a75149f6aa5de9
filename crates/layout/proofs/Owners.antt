-- The owner of a slot, written with the header's word: what is read then, and that nothing below the word is free. Assumes nothing.
use mathlib.Core.Path.{◌≡◌, refl, sym, ap, ap₂, subst, ◌∙◌}
use mathlib.Core.Logic.{◌⊎◌, inl, inr, ◌≢◌}
use mathlib.Core.List.{List}
use mathlib.Core.Bool.{Bool, true, false, cond}
use Prim.Native.Nat.{ℕ, ◌+◌, ◌≤◌, ◌<◌, min}
use native.Mathlib.Omega.{arith}
use lib.ListN.{length, get_or, set, length-set}
use lib.Seq.{get_or-set_same, get_or-set_other, set-get_or}
use lib.Dec.{eqb}
use borrow.Author.Tests.{eqb-true, eqb-false, ne_eqb}
use Rattle.layout.specs.Follows.{FullTo}
use Rattle.layout.specs.Writes.{from_after, put_owner}
use Rattle.layout.proofs.Added.{same_or}

pub full_same : {f g : ℕ → ℕ} {n k i : ℕ} → FullTo f n k → i ≡ k → ((j : ℕ) → j < n → g j ≡ f j) → FullTo g n i
full_same w e s = let m = w.within in record { within = omega arith; owned = λ j l z. w.owned j (omega arith) (sym (s j (omega arith)) ∙ z) }

-- slot i gets the owner w, and all others keep theirs
module _ (f g : ℕ → ℕ) (n k i w : ℕ) (l : i < n) (here : g i ≡ w) (off : (j : ℕ) → j ≢ i → g j ≡ f j) (full : FullTo f n k)
    (low : w ≢ 0 → f i ≡ 0 → (j : ℕ) → j < i → f j ≢ 0) where
  others : w ≢ 0 → (j : ℕ) → (j ≢ i → f j ≢ 0) → (j ≡ i) ⊎ (j ≢ i) → g j ≢ 0
  others d j r (inl e) = λ z. d (sym here ∙ ap g (sym e) ∙ z)
  others d j r (inr e) = λ z. r e (sym (off j e) ∙ z)

  full_after : FullTo g n (from_after k i (f i) w)
  full_after = go (eqb w 0) refl (eqb (f i) 0) refl
    where
      go : (a : Bool) → eqb w 0 ≡ a → (b : Bool) → eqb (f i) 0 ≡ b → FullTo g n (cond a (min k i) (cond b (i + 1) k))
      go true e b q =
          let m = full.within in
          record { within = omega arith; owned = λ j u z. full.owned j (omega arith) (sym (off j (omega arith)) ∙ z) }
      go false e true q =
          let d = eqb-false w 0 e in
          record { within = omega arith; owned = λ j u. others d j (λ v. low d (eqb-true (f i) 0 q) j (omega arith)) (same_or j i) }
      go false e false q = record { within = full.within; owned = λ j u. others (eqb-false w 0 e) j (λ v. full.owned j u) (same_or j i) }

module _ (k a : ℕ) (t : List ℕ) (i w : ℕ) where
  pub put_owner_length : length (put_owner k a t i w) ≡ length t
  unfolding put_owner
  put_owner_length = length-set (set t (a + i) w) k _ ∙ length-set t (a + i) w

  pub put_owner_off : (j : ℕ) → j ≢ k → j ≢ a + i → get_or (put_owner k a t i w) j 0 ≡ get_or t j 0
  unfolding put_owner
  put_owner_off j d e = get_or-set_other (set t (a + i) w) k j _ 0 d ∙ get_or-set_other t (a + i) j w 0 e

  pub put_owner_here : a + i ≢ k → a + i < length t → get_or (put_owner k a t i w) (a + i) 0 ≡ w
  unfolding put_owner
  put_owner_here d l = get_or-set_other (set t (a + i) w) k (a + i) _ 0 d ∙ get_or-set_same t (a + i) w 0 l

  pub put_owner_word : k < length t → get_or (put_owner k a t i w) k 0 ≡ from_after (get_or t k 0) i (get_or t (a + i) 0) w
  unfolding put_owner
  put_owner_word l = get_or-set_same (set t (a + i) w) k _ 0 (let n = length-set t (a + i) w in omega arith)

  -- the word before, the n owners and the word after
  pub put_owner_full : (n : ℕ) → k < a → i < n → a + n ≤ length t → FullTo (λ (j : ℕ). get_or t (a + j) 0) n (get_or t k 0)
      → (w ≢ 0 → get_or t (a + i) 0 ≡ 0 → (j : ℕ) → j < i → get_or t (a + j) 0 ≢ 0)
      → FullTo (λ (j : ℕ). get_or (put_owner k a t i w) (a + j) 0) n (get_or (put_owner k a t i w) k 0)
  put_owner_full n m l r full low =
      subst (FullTo (λ (j : ℕ). get_or (put_owner k a t i w) (a + j) 0) n) (sym (put_owner_word (omega arith)))
      (full_after (λ (j : ℕ). get_or t (a + j) 0) (λ (j : ℕ). get_or (put_owner k a t i w) (a + j) 0) n (get_or t k 0) i w l
      (put_owner_here (omega arith) (omega arith)) (λ j d. put_owner_off (a + j) (omega arith) (omega arith)) full low)

  -- an owner that is there, put again
  pub put_owner_same : get_or t (a + i) 0 ≡ w → w ≢ 0 → put_owner k a t i w ≡ t
  unfolding put_owner
  put_owner_same e d =
      ap₂ (λ (u : List ℕ) (v : ℕ). set u k v) (ap (set t (a + i)) (sym e) ∙ set-get_or t (a + i) 0)
      (ap₂ (λ (b c : Bool). cond b (min (get_or t k 0) i) (cond c (i + 1) (get_or t k 0))) (ne_eqb w 0 d) (ne_eqb (get_or t (a + i) 0) 0 (λ q. d (sym e ∙ q))))
      ∙ set-get_or t k 0

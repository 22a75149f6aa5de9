-- The first n elements made 0: what is read of them, past them, and the length. Assumes nothing.
use mathlib.Core.Path.{◌≡◌, refl, ap, ◌∙◌}
use mathlib.Core.List.{List, ◌++◌}
use Prim.Native.Nat.{ℕ, zero, suc, ◌+◌, ◌-◌, ◌≤◌, ◌<◌}
use native.Mathlib.Omega.{arith}
use lib.ListN.{length, get_or, drop, replicate, length-append, length-drop, length-replicate, get_or-append}
use lib.Seq.{get_or-append-add, get_or-drop}
use Rattle.layout.specs.SetUp.{zeroed}

-- ---- any front of n elements

-- elements past the front are as they were
pub front_past : (front xs : List ℕ) (n i : ℕ) → length front ≡ n → n ≤ i → get_or (front ++ drop n xs) i 0 ≡ get_or xs i 0
front_past front xs n i e l =
    let k = i - n in
    let f : i ≡ length front + k = omega arith in
    let g : n + k ≡ i = omega arith in
    ap (λ (j : ℕ). get_or (front ++ drop n xs) j 0) f ∙ get_or-append-add front (drop n xs) k 0 ∙ get_or-drop n xs k 0 ∙ ap (λ (j : ℕ). get_or xs j 0) g

pub front_length : (front xs : List ℕ) (n : ℕ) → length front ≡ n → n ≤ length xs → length (front ++ drop n xs) ≡ length xs
front_length front xs n e l = let a = length-append front (drop n xs) in let d = length-drop n xs in omega arith

-- ---- zeros

pub zeros_at : (n i : ℕ) → get_or {A = ℕ} (replicate n 0) i 0 ≡ 0
zeros_at zero i = refl
zeros_at (suc n) zero = refl
zeros_at (suc n) (suc i) = zeros_at n i

module _ (n : ℕ) (xs : List ℕ) where
  pub zeroed_at : (i : ℕ) → i < n → get_or (zeroed n xs) i 0 ≡ 0
  unfolding zeroed
  zeroed_at i l = get_or-append (replicate n 0) (drop n xs) 0 i (let e = length-replicate {A = ℕ} n 0 in omega arith) ∙ zeros_at n i

  pub zeroed_past : (i : ℕ) → n ≤ i → get_or (zeroed n xs) i 0 ≡ get_or xs i 0
  unfolding zeroed
  zeroed_past i l = front_past (replicate n 0) xs n i (length-replicate n 0) l

  pub zeroed_length : n ≤ length xs → length (zeroed n xs) ≡ length xs
  unfolding zeroed
  zeroed_length l = front_length (replicate n 0) xs n (length-replicate n 0) l

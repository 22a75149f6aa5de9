-- Laws of `sum_to`: its two equations, extension, split, order, one change, one insertion. Assumes nothing.
use mathlib.Core.Path.{◌≡◌, refl, sym, ap, ap₂, ◌∙◌}
use mathlib.Core.Logic.{◌⊎◌, inl, inr, ◌≢◌}
use mathlib.Core.Bool.{Bool, true, false}
use Prim.Native.Nat.{ℕ, zero, suc, ◌+◌, ◌*◌, ◌≤◌, ◌<◌}
use native.Mathlib.Nat.{add-zero, add-suc, suc-mul, zero-mul}
use native.Mathlib.Numerals.{add-one}
use native.Mathlib.Omega.{arith}
use lib.Dec.{ltb}
use borrow.Author.Tests.{ltb-true, ltb-false}
use Rattle.sums.specs.Sums.{sum_to}

-- ---- the equations

pub sum_zero : (f : ℕ → ℕ) → sum_to f 0 ≡ 0
unfolding sum_to
sum_zero f = refl

pub sum_suc : (f : ℕ → ℕ) (n : ℕ) → sum_to f (suc n) ≡ sum_to f n + f n
unfolding sum_to
sum_suc f n = refl

-- a loop's turn: the code's n + 1
pub sum_next : (f : ℕ → ℕ) (n : ℕ) → sum_to f (n + 1) ≡ sum_to f n + f n
sum_next f n = ap (sum_to f) (add-one n) ∙ sum_suc f n

-- below n + 1 is below n, or n
pub last_or : (a n : ℕ) → a < suc n → (a < n) ⊎ (a ≡ n)
last_or a n l = go (ltb a n) refl
  where
    go : (b : Bool) → ltb a n ≡ b → (a < n) ⊎ (a ≡ n)
    go true e = inl (ltb-true a n e)
    go false e = inr (let m : n ≤ a = ltb-false a n e in omega arith)

-- ---- extension, order, bounds

pub sum_ext : (f g : ℕ → ℕ) (n : ℕ) → ((j : ℕ) → j < n → f j ≡ g j) → sum_to f n ≡ sum_to g n
unfolding sum_to
sum_ext f g zero h = refl
sum_ext f g (suc n) h = ap₂ ◌+◌ (sum_ext f g n (λ j l. h j (omega arith))) (h n (omega arith))

pub sum_none : (f : ℕ → ℕ) (n : ℕ) → ((j : ℕ) → j < n → f j ≡ 0) → sum_to f n ≡ 0
unfolding sum_to
sum_none f zero h = refl
sum_none f (suc n) h = let a : sum_to f n ≡ 0 = sum_none f n (λ j l. h j (omega arith)) in let b : f n ≡ 0 = h n (omega arith) in omega arith

pub sum_le : (f g : ℕ → ℕ) (n : ℕ) → ((j : ℕ) → j < n → f j ≤ g j) → sum_to f n ≤ sum_to g n
unfolding sum_to
sum_le f g zero h = omega arith
sum_le f g (suc n) h = let a = sum_le f g n (λ j l. h j (omega arith)) in let b = h n (omega arith) in omega arith

-- no term above c
pub sum_bound : (f : ℕ → ℕ) (c n : ℕ) → ((j : ℕ) → j < n → f j ≤ c) → sum_to f n ≤ n * c
unfolding sum_to
sum_bound f c zero h = omega arith
sum_bound f c (suc n) h = let a = sum_bound f c n (λ j l. h j (omega arith)) in let b = h n (omega arith) in omega (arith, suc-mul n c)

-- ---- split at a point

pub sum_split : (f : ℕ → ℕ) (a b : ℕ) → sum_to f (a + b) ≡ sum_to f a + sum_to (λ (j : ℕ). f (a + j)) b
sum_split f a zero = let z = sum_zero (λ (j : ℕ). f (a + j)) in let e = ap (sum_to f) (add-zero a) in omega arith
sum_split f a (suc b) =
    let ih = sum_split f a b in
    let e = ap (sum_to f) (add-suc a b) ∙ sum_suc f (a + b) in
    let s = sum_suc (λ (j : ℕ). f (a + j)) b in
    omega arith

pub sum_mono : (f : ℕ → ℕ) (a b : ℕ) → a ≤ b → sum_to f a ≤ sum_to f b
sum_mono f a zero l = let e : a ≡ 0 = omega arith in let x = ap (sum_to f) e in omega arith
sum_mono f a (suc b) l = go (ltb a (suc b)) refl (sum_mono f a b)
  where
    go : (t : Bool) → ltb a (suc b) ≡ t → (a ≤ b → sum_to f a ≤ sum_to f b) → sum_to f a ≤ sum_to f (suc b)
    go true e r = let m = ltb-true a (suc b) e in let ih = r (omega arith) in let s = sum_suc f b in omega arith
    go false e r = let m = ltb-false a (suc b) e in let d : a ≡ suc b = omega arith in let x = ap (sum_to f) d in omega arith

-- n groups of k terms
pub sum_groups : (f : ℕ → ℕ) (k n : ℕ) → sum_to (λ (i : ℕ). sum_to (λ (j : ℕ). f (i * k + j)) k) n ≡ sum_to f (n * k)
sum_groups f k zero = sum_zero (λ (i : ℕ). sum_to (λ (j : ℕ). f (i * k + j)) k) ∙ sym (ap (sum_to f) (zero-mul k) ∙ sum_zero f)
sum_groups f k (suc n) =
    let ih = sum_groups f k n in
    let s = sum_suc (λ (i : ℕ). sum_to (λ (j : ℕ). f (i * k + j)) k) n in
    let e = ap (sum_to f) (suc-mul n k) ∙ sum_split f (n * k) k in
    omega arith

-- ---- two sums at once

pub sum_add : (f g : ℕ → ℕ) (n : ℕ) → sum_to (λ (j : ℕ). f j + g j) n ≡ sum_to f n + sum_to g n
unfolding sum_to
sum_add f g zero = refl
sum_add f g (suc n) = let ih = sum_add f g n in omega arith

pub sum_swap : (g : ℕ → ℕ → ℕ) (n k : ℕ) → sum_to (λ (i : ℕ). sum_to (g i) k) n ≡ sum_to (λ (j : ℕ). sum_to (λ (i : ℕ). g i j) n) k
unfolding sum_to
sum_swap g zero k = sym (sum_none (λ (j : ℕ). 0) k (λ j l. refl))
sum_swap g (suc n) k = ap (λ (x : ℕ). x + sum_to (g n) k) (sum_swap g n k) ∙ sym (sum_add (λ (j : ℕ). sum_to (λ (i : ℕ). g i j) n) (g n) k)

-- ---- one change

-- g is f but for place a
pub sum_change : (f g : ℕ → ℕ) (a n : ℕ) → a < n → ((j : ℕ) → j < n → j ≢ a → g j ≡ f j) → sum_to g n + f a ≡ sum_to f n + g a
sum_change f g a zero l h = absurd (omega arith)
sum_change f g a (suc n) l h = go (last_or a n l) (λ m. sum_change f g a n m (λ j w. h j (omega arith)))
  where
    go : (a < n) ⊎ (a ≡ n) → (a < n → sum_to g n + f a ≡ sum_to f n + g a) → sum_to g (suc n) + f a ≡ sum_to f (suc n) + g a
    go (inl m) k = let ih = k m in let e : g n ≡ f n = h n (omega arith) (omega arith) in omega (arith, sum_suc f n, sum_suc g n)
    go (inr e) k =
        let s : sum_to g n ≡ sum_to f n = sum_ext g f n (λ j i. h j (omega arith) (omega arith)) in
        let x : f n ≡ f a = ap f (sym e) in
        let y : g n ≡ g a = ap g (sym e) in
        omega (arith, sum_suc f n, sum_suc g n)

-- one term alone
pub sum_single : (f : ℕ → ℕ) (a n : ℕ) → a < n → ((j : ℕ) → j < n → j ≢ a → f j ≡ 0) → sum_to f n ≡ f a
sum_single f a n l h =
    let c = sum_change (λ (_ : ℕ). 0) f a n l h in
    let z : sum_to (λ (_ : ℕ). 0) n ≡ 0 = sum_none (λ (_ : ℕ). 0) n (λ j k. refl) in
    omega arith

pub sum_part : (f : ℕ → ℕ) (a n : ℕ) → a < n → f a ≤ sum_to f n
sum_part f a n l = let s = sum_suc f a in let m = sum_mono f (suc a) n l in omega arith

-- ---- one insertion

-- g is f with v put in at k, what stood at k to n - 1 moved up by one
pub record Inserted (f g : ℕ → ℕ) (k n v : ℕ) : Type 0 where
  pub fits : k ≤ n
  pub below : (j : ℕ) → j < k → g j ≡ f j
  pub here : g k ≡ v
  pub above : (j : ℕ) → k ≤ j → j < n → g (suc j) ≡ f j

pub sum_insert : (f g : ℕ → ℕ) (k n v : ℕ) → Inserted f g k n v → sum_to g (suc n) ≡ sum_to f n + v
sum_insert f g k zero v i = let e : g 0 ≡ g k = ap g (let z : 0 ≡ k = omega arith in z) in let h = i.here in omega (arith, sum_suc g 0, sum_zero g, sum_zero f)
sum_insert f g k (suc n) v i = go (last_or k (suc n) (let l = i.fits in omega arith)) (sum_insert f g k n v)
  where
    go : (k < suc n) ⊎ (k ≡ suc n) → (Inserted f g k n v → sum_to g (suc n) ≡ sum_to f n + v) → sum_to g (suc (suc n)) ≡ sum_to f (suc n) + v
    go (inl m) r =
        let ih = r (record { fits = omega arith; below = i.below; here = i.here; above = λ j a b. i.above j a (omega arith) }) in
        let e : g (suc n) ≡ f n = i.above n (omega arith) (omega arith) in
        omega (arith, sum_suc g (suc n), sum_suc f n)
    go (inr e) r =
        let s : sum_to g (suc n) ≡ sum_to f (suc n) = sum_ext g f (suc n) (λ j l. i.below j (omega arith)) in
        let x : g (suc n) ≡ g k = ap g (sym e) in
        let h = i.here in
        omega (arith, sum_suc g (suc n))

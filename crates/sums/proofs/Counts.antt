-- Laws of `count`, each a law of `sum_to`. Assumes nothing.
use mathlib.Core.Path.{◌≡◌, sym, ap, ◌∙◌}
use mathlib.Core.Logic.{◌⊎◌, inl, inr, ◌≢◌}
use mathlib.Core.Bool.{Bool, true, false}
use Prim.Native.Nat.{ℕ, zero, suc, ◌+◌, ◌≤◌, ◌<◌}
use native.Mathlib.Omega.{arith}
use mir.Val.{bool_byte}
use Rattle.sums.specs.Ids.{Ids, count}
use Rattle.sums.proofs.Sums.{sum_zero, sum_suc, sum_next, sum_ext, sum_none, sum_bound, sum_split, sum_mono, sum_change, last_or}

pub byte_le : (b : Bool) → bool_byte b ≤ 1
byte_le true = omega arith
byte_le false = omega arith

pub count_zero : (P : Ids) → count P 0 ≡ 0
unfolding count
count_zero P = sum_zero (λ (j : ℕ). bool_byte (P j))

pub count_suc : (P : Ids) (n : ℕ) → count P (suc n) ≡ count P n + bool_byte (P n)
unfolding count
count_suc P n = sum_suc (λ (j : ℕ). bool_byte (P j)) n

pub count_next : (P : Ids) (n : ℕ) → count P (n + 1) ≡ count P n + bool_byte (P n)
unfolding count
count_next P n = sum_next (λ (j : ℕ). bool_byte (P j)) n

pub count_ext : (P Q : Ids) (n : ℕ) → ((j : ℕ) → j < n → P j ≡ Q j) → count P n ≡ count Q n
unfolding count
count_ext P Q n h = sum_ext (λ (j : ℕ). bool_byte (P j)) (λ (j : ℕ). bool_byte (Q j)) n (λ j l. ap bool_byte (h j l))

pub count_none : (P : Ids) (n : ℕ) → ((j : ℕ) → j < n → P j ≡ false) → count P n ≡ 0
unfolding count
count_none P n h = sum_none (λ (j : ℕ). bool_byte (P j)) n (λ j l. ap bool_byte (h j l))

pub count_le : (P : Ids) (n : ℕ) → count P n ≤ n
unfolding count
count_le P n = let b = sum_bound (λ (j : ℕ). bool_byte (P j)) 1 n (λ j l. byte_le (P j)) in omega arith

pub count_split : (P : Ids) (a b : ℕ) → count P (a + b) ≡ count P a + count (λ (j : ℕ). P (a + j)) b
unfolding count
count_split P a b = sum_split (λ (j : ℕ). bool_byte (P j)) a b

pub count_mono : (P : Ids) (a b : ℕ) → a ≤ b → count P a ≤ count P b
unfolding count
count_mono P a b l = sum_mono (λ (j : ℕ). bool_byte (P j)) a b l

-- Q is P but for id a
pub count_change : (P Q : Ids) (a n : ℕ) → a < n → ((j : ℕ) → j < n → j ≢ a → Q j ≡ P j) → count Q n + bool_byte (P a) ≡ count P n + bool_byte (Q a)
unfolding count
count_change P Q a n l h = sum_change (λ (j : ℕ). bool_byte (P j)) (λ (j : ℕ). bool_byte (Q j)) a n l (λ j w d. ap bool_byte (h j w d))

pub count_full : (P : Ids) (n : ℕ) → ((j : ℕ) → j < n → P j ≡ true) → count P n ≡ n
count_full P zero h = count_zero P
count_full P (suc n) h = let ih = count_full P n (λ j l. h j (omega arith)) in let e : bool_byte (P n) ≡ 1 = ap bool_byte (h n (omega arith)) in omega (arith, count_suc P n)

-- a count short of its bound has a gap, and a gap makes it short
pub count_less : (P : Ids) (a n : ℕ) → a < n → P a ≡ false → count P n < n
count_less P a zero l e = absurd (omega arith)
count_less P a (suc n) l e = go (last_or a n l) (λ m. count_less P a n m e)
  where
    go : (a < n) ⊎ (a ≡ n) → (a < n → count P n < n) → count P (suc n) < suc n
    go (inl m) r = let ih = r m in omega (arith, count_suc P n, byte_le (P n))
    go (inr d) r = let x : bool_byte (P n) ≡ 0 = ap (λ (j : ℕ). bool_byte (P j)) (sym d) ∙ ap bool_byte e in omega (arith, count_suc P n, count_le P n)

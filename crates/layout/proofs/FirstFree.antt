-- The first place whose owner is 0, looked for past places that all have one: it is the lowest of all. Assumes nothing.
use mathlib.Core.Path.{◌≡◌, refl, ap, ◌∙◌}
use mathlib.Core.Logic.{◌⊎◌, inl, inr, ◌≢◌}
use mathlib.Core.Bool.{Bool, true, false, cond, not}
use Prim.Native.Nat.{ℕ, zero, suc, ◌+◌, ◌-◌, ◌≤◌, ◌<◌}
use native.Mathlib.Omega.{arith}
use lib.Dec.{leb, ltb, eqb}
use borrow.Author.Tests.{eqb-true, eqb-false, eq-eqb, ne_eqb, ltb-true, ltb-false}
use Rattle.sums.specs.Ids.{count}
use Rattle.sums.specs.Rules.{Decides}
use Rattle.sums.proofs.Counts.{count_full, count_less}
use Rattle.sums.proofs.Rules.{same_of, leb_of}
use Rattle.sums.proofs.Sums.{last_or}
use Rattle.layout.specs.Follows.{FullTo}
use Rattle.layout.specs.Free.{first_free}
use Rattle.layout.specs.Lowest.{Lowest}

-- what is said of place a, looked for in the k from i on
pub record First (f : ℕ → ℕ) (i k a : ℕ) : Type 0 where
  pub low : i ≤ a
  pub high : a ≤ i + k
  pub free : a < i + k → f a ≡ 0
  pub before : (j : ℕ) → i ≤ j → j < a → f j ≢ 0

first_here : (f : ℕ → ℕ) (i k : ℕ) → f i ≡ 0 → First f i (suc k) i
first_here f i k e = record { low = omega arith; high = omega arith; free = λ l. e; before = λ j a b. absurd (omega arith) }

first_later : (f : ℕ → ℕ) (i k a : ℕ) → f i ≢ 0 → First f (suc i) k a → First f i (suc k) a
first_later f i k a d w =
    let l = w.low in
    let h = w.high in
    record { low = omega arith; high = omega arith; free = λ m. w.free (omega arith); before = λ j u v. go j v (last_or i j (omega arith)) }
  where
    go : (j : ℕ) → j < a → (i < j) ⊎ (i ≡ j) → f j ≢ 0
    go j v (inl m) = w.before j (omega arith) v
    go j v (inr m) = λ e. d (ap f m ∙ e)

pub first_free_law : (f : ℕ → ℕ) (i k : ℕ) → First f i k (first_free f i k)
unfolding first_free
first_free_law f i zero = record { low = omega arith; high = omega arith; free = λ l. absurd (omega arith); before = λ j a b. absurd (omega arith) }
first_free_law f i (suc k) = go (eqb (f i) 0) refl (first_free_law f (suc i) k)
  where
    go : (b : Bool) → eqb (f i) 0 ≡ b → First f (suc i) k (first_free f (suc i) k) → First f i (suc k) (cond b i (first_free f (suc i) k))
    go true e r = first_here f i k (eqb-true (f i) 0 e)
    go false e r = first_later f i k (first_free f (suc i) k) (eqb-false (f i) 0 e) r

-- ---- of all n places, the k lowest having an owner

abbrev pub taken : (ℕ → ℕ) → ℕ → Bool
taken f i = not (eqb (f i) 0)

module _ {f : ℕ → ℕ} {n k : ℕ} (full : FullTo f n k) where
  abbrev a : ℕ
  a = first_free f k (n - k)

  found : First f k (n - k) a
  found = first_free_law f k (n - k)

  lower : (j : ℕ) → j < a → f j ≢ 0
  lower j l = go (ltb j k) refl
    where
      go : (b : Bool) → ltb j k ≡ b → f j ≢ 0
      go true e = full.owned j (ltb-true j k e)
      go false e = found.before j (ltb-false j k e) l

  pub found_full : FullTo f n a
  found_full = let w = full.within in let h = found.high in record { within = omega arith; owned = lower }

  -- one is found: it is the lowest, and fewer than n are taken
  pub lowest : a < n → Lowest f n a
  lowest l = let w = full.within in record { there = l; free = found.free (omega arith); lower = lower }

  pub found_less : a < n → count (taken f) n < n
  found_less l = count_less (taken f) a n l (ap not (eq-eqb (f a) 0 (lowest l).free))

  -- none is found: all n are taken
  pub none_full : n ≤ a → count (taken f) n ≡ n
  none_full l = count_full (taken f) n (λ j m. ap not (ne_eqb (f j) 0 (lower j (omega arith))))

-- the same place is found from wherever all below have an owner
module _ {f : ℕ → ℕ} {n k i : ℕ} (w : FullTo f n k) (v : FullTo f n i) where
  abbrev u : ℕ
  u = first_free f k (n - k)

  abbrev b : ℕ
  b = first_free f i (n - i)

  pub same_found : first_free f k (n - k) ≡ first_free f i (n - i)
  same_found = go (ltb u b) refl (ltb b u) refl
    where
      go : (x : Bool) → ltb u b ≡ x → (y : Bool) → ltb b u ≡ y → u ≡ b
      go true e y q = let l = ltb-true u b e in let h = (found v).high in let m = v.within in absurd (lower v u l (lowest w (omega arith)).free)
      go false e true q = let l = ltb-true b u q in let h = (found w).high in let m = w.within in absurd (lower w b l (lowest v (omega arith)).free)
      go false e false q = let l = ltb-false u b e in let m = ltb-false b u q in omega arith

-- ---- all below k have an owner exactly when the lowest free place is not below it

pub full_of : (f : ℕ → ℕ) (n k : ℕ) → Decides (leb k (first_free f 0 n)) (FullTo f n k)
full_of f n k =
    let a = first_free_law f 0 n in
    same_of (leb_of k (first_free f 0 n))
    (λ (l : k ≤ first_free f 0 n). (let h = a.high in record { within = omega arith; owned = λ j m. a.before j (omega arith) (omega arith) }))
    (λ (w : FullTo f n k). go w (ltb (first_free f 0 n) k) refl)
  where
    go : FullTo f n k → (b : Bool) → ltb (first_free f 0 n) k ≡ b → k ≤ first_free f 0 n
    go w true e = let l = ltb-true (first_free f 0 n) k e in let m = w.within in absurd (w.owned (first_free f 0 n) l ((first_free_law f 0 n).free (omega arith)))
    go w false e = ltb-false (first_free f 0 n) k e

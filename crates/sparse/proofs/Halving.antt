-- Laws of the halving search: a turn, what is left after turns, its bound on any content, its place where a point parts the offsets. Assumes nothing.
use mathlib.Core.Path.{◌≡◌, refl, sym, ap, ◌∙◌}
use mathlib.Core.Bool.{Bool, true, false, cond}
use mathlib.Core.List.{List}
use Prim.Native.Nat.{ℕ, zero, suc, ◌+◌, ◌-◌, ◌/◌, ◌≤◌, ◌<◌}
use native.Mathlib.Omega.{arith}
use lib.Dec.{ltb, eqb}
use lib.ListN.{get_or}
use mir.Val.{bool_byte}
use borrow.Author.Tests.{ltb-true, ltb-false, lt-ltb, le-ltb, eqb-true, eqb-false, eq-eqb, ne_eqb}
use Rattle.sums.proofs.Counts.{byte_le}
use Rattle.sparse.specs.Search.{lower_in, lower_of}

-- ---- a turn

-- the end of the search, and the part that one turn keeps
abbrev pub last : List ℕ → ℕ → ℕ → ℕ
last row x lo = lo + bool_byte (ltb (get_or row lo 0) x)

abbrev kept : List ℕ → ℕ → ℕ → ℕ → ℕ
kept row x lo n = cond (ltb (get_or row (lo + n / 2) 0) x) (lo + n / 2) lo

module _ (row : List ℕ) (x : ℕ) where
  in_turn : (t lo n : ℕ) → 1 < n → lower_in (suc t) row x lo n ≡ lower_in t row x (kept row x lo n) (n - n / 2)
  unfolding lower_in
  in_turn t lo n m = ap (λ (b : Bool). cond b (lower_in t row x (kept row x lo n) (n - n / 2)) (last row x lo)) (lt-ltb 1 n m)

  in_zero : (lo n : ℕ) → lower_in 0 row x lo n ≡ last row x lo
  unfolding lower_in
  in_zero lo n = refl

  pub in_end : (t lo n : ℕ) → n ≤ 1 → lower_in t row x lo n ≡ last row x lo
  unfolding lower_in
  in_end zero lo n m = refl
  in_end (suc t) lo n m = ap (λ (b : Bool). cond b (lower_in t row x (kept row x lo n) (n - n / 2)) (last row x lo)) (le-ltb 1 n m)

  -- turns enough are turns enough
  in_same : (t u lo n : ℕ) → n ≤ t + 1 → n ≤ u + 1 → lower_in t row x lo n ≡ lower_in u row x lo n
  in_same zero u lo n a b = in_end 0 lo n (omega arith) ∙ sym (in_end u lo n (omega arith))
  in_same (suc t) zero lo n a b = in_end (suc t) lo n (omega arith) ∙ sym (in_end 0 lo n (omega arith))
  in_same (suc t) (suc u) lo n a b = go (ltb 1 n) refl (in_same t u)
    where
      go : (c : Bool) → ltb 1 n ≡ c → ((lo n : ℕ) → n ≤ t + 1 → n ≤ u + 1 → lower_in t row x lo n ≡ lower_in u row x lo n) → lower_in (suc t) row x lo n ≡ lower_in (suc u) row x lo n
      go true e r = let m = ltb-true 1 n e in in_turn t lo n m ∙ r (kept row x lo n) (n - n / 2) (omega arith) (omega arith) ∙ sym (in_turn u lo n m)
      go false e r = let m = ltb-false 1 n e in in_end (suc t) lo n m ∙ sym (in_end (suc u) lo n m)

  -- of one place nothing is left out
  kept_one : (lo n : ℕ) → n ≤ 1 → kept row x lo n ≡ lo
  kept_one lo n m = go (ltb (get_or row (lo + n / 2) 0) x)
    where
      go : (b : Bool) → cond b (lo + n / 2) lo ≡ lo
      go true = omega arith
      go false = refl

  kept_same : (lo n : ℕ) → 1 ≤ n → lower_in (n - n / 2) row x (kept row x lo n) (n - n / 2) ≡ lower_in n row x lo n
  kept_same lo zero s = absurd (omega arith)
  kept_same lo (suc t) s = go (ltb 1 (suc t)) refl
    where
      go : (b : Bool) → ltb 1 (suc t) ≡ b → lower_in (suc t - suc t / 2) row x (kept row x lo (suc t)) (suc t - suc t / 2) ≡ lower_in (suc t) row x lo (suc t)
      go true e = let m = ltb-true 1 (suc t) e in in_same (suc t - suc t / 2) t (kept row x lo (suc t)) (suc t - suc t / 2) (omega arith) (omega arith) ∙ sym (in_turn t lo (suc t) m)
      go false e =
          let m = ltb-false 1 (suc t) e in
          in_end (suc t - suc t / 2) (kept row x lo (suc t)) (suc t - suc t / 2) (omega arith) ∙ ap (last row x) (kept_one lo (suc t) m) ∙ sym (in_end (suc t) lo (suc t) m)

  -- either half, as the test of the middle leaves it, gives the same answer
  module _ (lo n : ℕ) (some : 1 ≤ n) where
    on_kept : (p : ℕ) → kept row x lo n ≡ p → lower_in (n - n / 2) row x p (n - n / 2) ≡ lower_in n row x lo n
    on_kept p e = ap (λ (k : ℕ). lower_in (n - n / 2) row x k (n - n / 2)) (sym e) ∙ kept_same lo n some

    pub upper_same : get_or row (lo + n / 2) 0 < x → lower_in (n - n / 2) row x (lo + n / 2) (n - n / 2) ≡ lower_in n row x lo n
    upper_same l = on_kept (lo + n / 2) (ap (λ (b : Bool). cond b (lo + n / 2) lo) (lt-ltb (get_or row (lo + n / 2) 0) x l))

    pub lower_same : x ≤ get_or row (lo + n / 2) 0 → lower_in (n - n / 2) row x lo (n - n / 2) ≡ lower_in n row x lo n
    lower_same l = on_kept lo (ap (λ (b : Bool). cond b (lo + n / 2) lo) (le-ltb (get_or row (lo + n / 2) 0) x l))

  -- and it lies inside
  module _ (lo n p : ℕ) (some : 1 ≤ n) where
    pub upper_half : get_or row (lo + n / 2) 0 < x → p ≡ lo + n / 2 → (p + (n - n / 2) ≤ lo + n) × (lower_in (n - n / 2) row x p (n - n / 2) ≡ lower_in n row x lo n)
    upper_half l e = (omega arith, ap (λ (k : ℕ). lower_in (n - n / 2) row x k (n - n / 2)) e ∙ upper_same lo n some l)

    pub lower_half : x ≤ get_or row (lo + n / 2) 0 → p ≡ lo → (p + (n - n / 2) ≤ lo + n) × (lower_in (n - n / 2) row x p (n - n / 2) ≡ lower_in n row x lo n)
    lower_half l e = (omega arith, ap (λ (k : ℕ). lower_in (n - n / 2) row x k (n - n / 2)) e ∙ lower_same lo n some l)

-- ---- the whole search

module _ (row : List ℕ) (len x : ℕ) where
  pub lower_none : len ≡ 0 → lower_of row len x ≡ 0
  unfolding lower_of
  lower_none e = ap (λ (b : Bool). cond b 0 (lower_in len row x 0 len)) (eq-eqb len 0 e)

  pub lower_some : (len ≡ 0 → ⊥) → lower_of row len x ≡ lower_in len row x 0 len
  unfolding lower_of
  lower_some e = ap (λ (b : Bool). cond b 0 (lower_in len row x 0 len)) (ne_eqb len 0 e)

-- ---- any content

module _ (row : List ℕ) (len x : ℕ) where
  in_le : (t lo n : ℕ) → 1 ≤ n → lo + n ≤ len → lower_in t row x lo n ≤ len
  in_le zero lo n s i = let e = in_zero row x lo n in omega (arith, byte_le (ltb (get_or row lo 0) x))
  in_le (suc t) lo n s i = go (ltb 1 n) refl (ltb (get_or row (lo + n / 2) 0) x) refl (in_le t)
    where
      go : (a : Bool) → ltb 1 n ≡ a → (b : Bool) → ltb (get_or row (lo + n / 2) 0) x ≡ b → ((lo n : ℕ) → 1 ≤ n → lo + n ≤ len → lower_in t row x lo n ≤ len) → lower_in (suc t) row x lo n ≤ len
      go true e true d r = let m = ltb-true 1 n e in let k : kept row x lo n ≡ lo + n / 2 = ap (λ (b : Bool). cond b (lo + n / 2) lo) d in let w = r (kept row x lo n) (n - n / 2) (omega arith) (omega arith) in omega (arith, in_turn row x t lo n m)
      go true e false d r = let m = ltb-true 1 n e in let k : kept row x lo n ≡ lo = ap (λ (b : Bool). cond b (lo + n / 2) lo) d in let w = r (kept row x lo n) (n - n / 2) (omega arith) (omega arith) in omega (arith, in_turn row x t lo n m)
      go false e b d r = omega (arith, in_end row x (suc t) lo n (ltb-false 1 n e), byte_le (ltb (get_or row lo 0) x))

  pub lower_le : lower_of row len x ≤ len
  lower_le = go (eqb len 0) refl
    where
      go : (b : Bool) → eqb len 0 ≡ b → lower_of row len x ≤ len
      go true e = omega (arith, lower_none row len x (eqb-true len 0 e))
      go false e = let d = eqb-false len 0 e in omega (arith, lower_some row len x d, in_le len 0 len (omega arith) (omega arith))

-- ---- a point parts the offsets

module _ (row : List ℕ) (len x p : ℕ) (at : (j : ℕ) → j < len → ltb (get_or row j 0) x ≡ ltb j p) where
  last_is : (lo : ℕ) → lo < len → lo ≤ p → p ≤ lo + 1 → last row x lo ≡ p
  last_is lo l a b = go (ltb lo p) refl
    where
      go : (t : Bool) → ltb lo p ≡ t → last row x lo ≡ p
      go true e = let z : bool_byte (ltb (get_or row lo 0) x) ≡ 1 = ap bool_byte (at lo l ∙ e) in let m = ltb-true lo p e in omega arith
      go false e = let z : bool_byte (ltb (get_or row lo 0) x) ≡ 0 = ap bool_byte (at lo l ∙ e) in let m = ltb-false lo p e in omega arith

  in_is : (t lo n : ℕ) → 1 ≤ n → n ≤ t + 1 → lo + n ≤ len → lo ≤ p → p ≤ lo + n → lower_in t row x lo n ≡ p
  in_is zero lo n s f i a b = in_end row x 0 lo n (omega arith) ∙ last_is lo (omega arith) a (omega arith)
  in_is (suc t) lo n s f i a b = go (ltb 1 n) refl (ltb (lo + n / 2) p) refl (in_is t)
    where
      mid : (b : Bool) → 1 < n → ltb (lo + n / 2) p ≡ b → kept row x lo n ≡ cond b (lo + n / 2) lo
      mid b m d = ap (λ (b : Bool). cond b (lo + n / 2) lo) (at (lo + n / 2) (omega arith) ∙ d)

      go : (u : Bool) → ltb 1 n ≡ u → (v : Bool) → ltb (lo + n / 2) p ≡ v → ((lo n : ℕ) → 1 ≤ n → n ≤ t + 1 → lo + n ≤ len → lo ≤ p → p ≤ lo + n → lower_in t row x lo n ≡ p) → lower_in (suc t) row x lo n ≡ p
      go true e true d r =
          let m = ltb-true 1 n e in
          let l = ltb-true (lo + n / 2) p d in
          in_turn row x t lo n m ∙ ap (λ (k : ℕ). lower_in t row x k (n - n / 2)) (mid true m d) ∙ r (lo + n / 2) (n - n / 2) (omega arith) (omega arith) (omega arith) (omega arith) (omega arith)
      go true e false d r =
          let m = ltb-true 1 n e in
          let l = ltb-false (lo + n / 2) p d in
          in_turn row x t lo n m ∙ ap (λ (k : ℕ). lower_in t row x k (n - n / 2)) (mid false m d) ∙ r lo (n - n / 2) (omega arith) (omega arith) (omega arith) (omega arith) (omega arith)
      go false e v d r = in_end row x (suc t) lo n (ltb-false 1 n e) ∙ last_is lo (omega arith) a (let m = ltb-false 1 n e in omega arith)

  pub lower_parts : p ≤ len → lower_of row len x ≡ p
  lower_parts b = go (eqb len 0) refl
    where
      go : (t : Bool) → eqb len 0 ≡ t → lower_of row len x ≡ p
      go true e = let z = eqb-true len 0 e in omega (arith, lower_none row len x z)
      go false e = let d = eqb-false len 0 e in lower_some row len x d ∙ in_is len 0 len (omega arith) (omega arith) (omega arith) (omega arith) (omega arith)

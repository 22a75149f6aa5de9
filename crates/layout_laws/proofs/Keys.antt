-- Laws of `beside`, the value beside a key, where keys rise: read at a key, read elsewhere, summed over what is below a bound. Assumes nothing.
use mathlib.Core.Path.{◌≡◌, refl, sym, ap, ◌∙◌}
use mathlib.Core.Logic.{◌⊎◌, inl, inr, ◌≢◌}
use mathlib.Core.Bool.{Bool, true, false, cond, ◌&&◌}
use Prim.Native.Nat.{ℕ, zero, suc, ◌+◌, ◌-◌, ◌≤◌, ◌<◌}
use native.Mathlib.Numerals.{add-one}
use native.Mathlib.Omega.{arith}
use lib.Dec.{ltb, eqb}
use borrow.Author.Tests.{ltb-true, ltb-false, eqb-true, eqb-false, lt-ltb, le-ltb, eq-eqb, ne_eqb}
use Rattle.sums.specs.Sums.{sum_to}
use Rattle.sums.specs.Ids.{count}
use Rattle.sums.proofs.Sums.{last_or, sum_ext, sum_none, sum_single, sum_swap}
use Rattle.sums.proofs.Counts.{count_split, count_full, count_none}
use Rattle.sparse.specs.Row.{Rising, below_of}
use Rattle.sparse.proofs.Rows.{rising_next}
use Rattle.layout.specs.Entries.{beside}

-- ---- keys

-- c is the key of a place below n, or of none
pub data Sought (key : ℕ → ℕ) (n c : ℕ) : Type 0 where
  found : (e : ℕ) → e < n → key e ≡ c → Sought key n c
  missed : ((e : ℕ) → e < n → key e ≢ c) → Sought key n c

pub seek : (key : ℕ → ℕ) (n c : ℕ) → Sought key n c
seek key zero c = missed (λ e l. absurd (omega arith))
seek key (suc n) c = go (eqb (key n) c) refl (seek key n c)
  where
    go : (b : Bool) → eqb (key n) c ≡ b → Sought key n c → Sought key (suc n) c
    go true t s = found n (omega arith) (eqb-true (key n) c t)
    go false t (found e l q) = found e (omega arith) q
    go false t (missed h) = missed (λ e l q. last e q (last_or e n l))
      where
        last : (e : ℕ) → key e ≡ c → (e < n) ⊎ (e ≡ n) → ⊥
        last e q (inl m) = h e m q
        last e q (inr m) = eqb-false (key n) c t (ap key (sym m) ∙ q)

-- by neighbours, the next one at e + 1
pub rising_by : (key : ℕ → ℕ) (n : ℕ) → ((e : ℕ) → e + 1 < n → key e < key (e + 1)) → Rising key n
rising_by key n h = rising_next key n (λ e l. rw add-one at (h e (omega arith)))

-- no two keys are equal
pub rising_apart : (key : ℕ → ℕ) (n : ℕ) → Rising key n → (i j : ℕ) → i < n → j < n → i ≢ j → key i ≢ key j
rising_apart key n r i j l m d e = go (ltb i j) refl
  where
    go : (b : Bool) → ltb i j ≡ b → ⊥
    go true t = let x = r i j (ltb-true i j t) m in omega arith
    go false t = let y = ltb-false i j t in let x = r j i (omega arith) l in omega arith

pub rising_same : (key : ℕ → ℕ) (n : ℕ) → Rising key n → (i j : ℕ) → i < n → j < n → key i ≡ key j → i ≡ j
rising_same key n r i j l m e = go (eqb i j) refl
  where
    go : (b : Bool) → eqb i j ≡ b → i ≡ j
    go true t = eqb-true i j t
    go false t = absurd (rising_apart key n r i j l m (eqb-false i j t) e)

-- ---- the value beside a key

module _ (key val : ℕ → ℕ) (n c : ℕ) where
  pub beside_none : ((e : ℕ) → e < n → key e ≢ c) → beside key val n c ≡ 0
  unfolding beside
  beside_none h = sum_none (λ (e : ℕ). cond (eqb (key e) c) (val e) 0) n (λ e l. ap (λ (b : Bool). cond b (val e) 0) (ne_eqb (key e) c (h e l)))

  pub beside_at : Rising key n → (e : ℕ) → e < n → key e ≡ c → beside key val n c ≡ val e
  unfolding beside
  beside_at r e l q =
      sum_single (λ (e : ℕ). cond (eqb (key e) c) (val e) 0) e n l
      (λ j m d. ap (λ (b : Bool). cond b (val j) 0) (ne_eqb (key j) c (λ p. rising_apart key n r j e m l d (p ∙ sym q))))
      ∙ ap (λ (b : Bool). cond b (val e) 0) (eq-eqb (key e) c q)

-- ---- sums over what is below a bound

-- the keys of places below k are those below N
pub record Cut (key : ℕ → ℕ) (n k N : ℕ) : Type 0 where
  pub fits : k ≤ n
  pub before : (e : ℕ) → e < k → key e < N
  pub after : (e : ℕ) → k ≤ e → e < n → N ≤ key e

pub cut_all : (key : ℕ → ℕ) (n N : ℕ) → ((e : ℕ) → e < n → key e < N) → Cut key n n N
cut_all key n N h = record { fits = omega arith; before = h; after = λ e a b. absurd (omega arith) }

pub cut_key : (key : ℕ → ℕ) (n : ℕ) → Rising key n → (k : ℕ) → k < n → Cut key n k (key k)
cut_key key n r k l = record { fits = omega arith; before = λ e m. r e k m l; after = λ e a b. go e b (last_or k e (omega arith)) }
  where
    go : (e : ℕ) → e < n → (k < e) ⊎ (k ≡ e) → key k ≤ key e
    go e b (inl m) = let x = r k e m b in omega arith
    go e b (inr m) = let x = ap key m in omega arith

module _ (key val : ℕ → ℕ) (n : ℕ) (r : Rising key n) (g : ℕ → ℕ → ℕ) (none : (c : ℕ) → g c 0 ≡ 0) where
  abbrev own : ℕ → ℕ → ℕ
  own c e = cond (eqb (key e) c) (g c (val e)) 0

  own_at : (e : ℕ) → own (key e) e ≡ g (key e) (val e)
  own_at e = ap (λ (b : Bool). cond b (g (key e) (val e)) 0) (eq-eqb (key e) (key e) refl)

  own_off : (c e : ℕ) → key e ≢ c → own c e ≡ 0
  own_off c e d = ap (λ (b : Bool). cond b (g c (val e)) 0) (ne_eqb (key e) c d)

  own_sum : (k N : ℕ) → Cut key n k N → (c : ℕ) → c < N → g c (beside key val n c) ≡ sum_to (own c) k
  own_sum k N u c l = go (seek key k c)
    where
      go : Sought key k c → g c (beside key val n c) ≡ sum_to (own c) k
      go (found e m q) =
          let f = u.fits in
          ap (g c) (beside_at key val n c r e (omega arith) q)
          ∙ sym (sum_single (own c) e k m (λ j w d. own_off c j (λ p. rising_apart key n r j e (omega arith) (omega arith) d (p ∙ sym q))) ∙ ap (λ (b : Bool). cond b (g c (val e)) 0) (eq-eqb (key e) c q))
      go (missed h) =
          ap (g c) (beside_none key val n c (λ e m. off e m (ltb e k) refl)) ∙ none c ∙ sym (sum_none (own c) k (λ e m. own_off c e (h e m)))
        where
          off : (e : ℕ) → e < n → (b : Bool) → ltb e k ≡ b → key e ≢ c
          off e m true t = h e (ltb-true e k t)
          off e m false t = let a = u.after e (ltb-false e k t) m in omega arith

  -- over what is below N, or over the places whose keys are below N
  pub sum_beside : (k N : ℕ) → Cut key n k N → sum_to (λ (c : ℕ). g c (beside key val n c)) N ≡ sum_to (λ (e : ℕ). g (key e) (val e)) k
  sum_beside k N u =
      sum_ext (λ (c : ℕ). g c (beside key val n c)) (λ (c : ℕ). sum_to (own c) k) N (own_sum k N u)
      ∙ sum_swap own N k
      ∙ sum_ext (λ (e : ℕ). sum_to (λ (c : ℕ). own c e) N) (λ (e : ℕ). g (key e) (val e)) k
      (λ e l. sum_single (λ (c : ℕ). own c e) (key e) N (u.before e l) (λ c m d. own_off c e (λ p. d (sym p))) ∙ own_at e)

-- ---- a cut where keys rise

-- as many keys are below
pub cut_count : (key : ℕ → ℕ) (n k N : ℕ) → Cut key n k N → below_of key n N ≡ k
unfolding below_of
cut_count key n k N u =
    let f = u.fits in
    let m = n - k in
    let e : n ≡ k + m = omega arith in
    let a = ap (count (λ (j : ℕ). ltb (key j) N)) e ∙ count_split (λ (j : ℕ). ltb (key j) N) k m in
    let b = count_full (λ (j : ℕ). ltb (key j) N) k (λ j l. lt-ltb (key j) N (u.before j l)) in
    let c = count_none (λ (j : ℕ). ltb (key (k + j)) N) m (λ j l. le-ltb (key (k + j)) N (u.after (k + j) (omega arith) (omega arith))) in
    omega arith

pub cut_one : (key : ℕ → ℕ) (n k i N : ℕ) → Cut key n k N → Cut key n i N → k ≡ i
cut_one key n k i N u v = sym (cut_count key n k N u) ∙ cut_count key n i N v

-- c can only be the key at the cut
pub cut_missed : (key : ℕ → ℕ) (n k c : ℕ) → Rising key n → Cut key n k c → (k < n → key k ≢ c) → (e : ℕ) → e < n → key e ≢ c
cut_missed key n k c r u h e l q = go (ltb e k) refl (ltb k e) refl
  where
    go : (a : Bool) → ltb e k ≡ a → (b : Bool) → ltb k e ≡ b → ⊥
    go true a b t = let x = u.before e (ltb-true e k a) in omega arith
    go false a true t = let x = r k e (ltb-true k e t) l in let y = u.after k (omega arith) (let z = ltb-true k e t in omega arith) in omega arith
    go false a false t = let x = ltb-false e k a in let y = ltb-false k e t in let i : k ≡ e = omega arith in h (omega arith) (ap key i ∙ q)

pub beside_cut : (key val : ℕ → ℕ) (n k c : ℕ) → Rising key n → Cut key n k c → beside key val n c ≡ cond (ltb k n && eqb (key k) c) (val k) 0
beside_cut key val n k c r u = go (ltb k n) refl (eqb (key k) c) refl
  where
    go : (a : Bool) → ltb k n ≡ a → (b : Bool) → eqb (key k) c ≡ b → beside key val n c ≡ cond (a && b) (val k) 0
    go true s true t = beside_at key val n c r k (ltb-true k n s) (eqb-true (key k) c t)
    go true s false t = beside_none key val n c (cut_missed key n k c r u (λ l. eqb-false (key k) c t))
    go false s b t = beside_none key val n c (cut_missed key n k c r u (λ l. absurd (let m = ltb-false k n s in omega arith)))

-- Laws of the binary search over keys: the bound on any keys, and the cut that it finds where keys rise. Assumes nothing.
use mathlib.Core.Path.{◌≡◌, refl, sym, ap, subst, ◌∙◌}
use mathlib.Core.Bool.{Bool, true, false, cond}
use Prim.Native.Nat.{ℕ, zero, suc, ◌+◌, ◌-◌, ◌/◌, ◌≤◌, ◌<◌}
use native.Mathlib.Omega.{arith}
use lib.Dec.{ltb}
use borrow.Author.Tests.{ltb-true, ltb-false, lt-ltb, le-ltb}
use Rattle.sparse.specs.Row.{Rising, below_of}
use Rattle.layout.specs.Short.{lower_key}
use Rattle.layout_laws.proofs.Keys.{Cut, cut_count}

module _ (key : ℕ → ℕ) (c : ℕ) where
  pub lower_zero : (lo hi : ℕ) → lower_key 0 key c lo hi ≡ lo
  unfolding lower_key
  lower_zero lo hi = refl

  pub lower_end : (turns lo hi : ℕ) → hi ≤ lo → lower_key turns key c lo hi ≡ lo
  unfolding lower_key
  lower_end zero lo hi l = refl
  lower_end (suc turns) lo hi l =
      ap (λ (b : Bool). cond b (cond (ltb (key (lo + (hi - lo) / 2)) c) (lower_key turns key c (lo + (hi - lo) / 2 + 1) hi) (lower_key turns key c lo (lo + (hi - lo) / 2))) lo) (le-ltb lo hi l)

  lower_turn : (turns lo hi : ℕ) (b : Bool) → lo < hi → ltb (key (lo + (hi - lo) / 2)) c ≡ b
      → lower_key (suc turns) key c lo hi ≡ cond b (lower_key turns key c (lo + (hi - lo) / 2 + 1) hi) (lower_key turns key c lo (lo + (hi - lo) / 2))
  unfolding lower_key
  lower_turn turns lo hi b l e =
      ap (λ (b : Bool). cond b (cond (ltb (key (lo + (hi - lo) / 2)) c) (lower_key turns key c (lo + (hi - lo) / 2 + 1) hi) (lower_key turns key c lo (lo + (hi - lo) / 2))) lo) (lt-ltb lo hi l)
      ∙ ap (λ (b : Bool). cond b (lower_key turns key c (lo + (hi - lo) / 2 + 1) hi) (lower_key turns key c lo (lo + (hi - lo) / 2))) e

  pub lower_up : (turns lo hi : ℕ) → lo < hi → key (lo + (hi - lo) / 2) < c → lower_key (suc turns) key c lo hi ≡ lower_key turns key c (lo + (hi - lo) / 2 + 1) hi
  lower_up turns lo hi l m = lower_turn turns lo hi true l (lt-ltb (key (lo + (hi - lo) / 2)) c m)

  pub lower_down : (turns lo hi : ℕ) → lo < hi → c ≤ key (lo + (hi - lo) / 2) → lower_key (suc turns) key c lo hi ≡ lower_key turns key c lo (lo + (hi - lo) / 2)
  lower_down turns lo hi l m = lower_turn turns lo hi false l (le-ltb (key (lo + (hi - lo) / 2)) c m)

  -- on any keys the answer lies between the ends
  pub lower_between : (turns lo hi : ℕ) → lo ≤ hi → (lo ≤ lower_key turns key c lo hi) × (lower_key turns key c lo hi ≤ hi)
  lower_between zero lo hi l = let e = lower_zero lo hi in omega arith
  lower_between (suc turns) lo hi l = go (ltb lo hi) refl (ltb (key (lo + (hi - lo) / 2)) c) refl (lower_between turns)
    where
      go : (a : Bool) → ltb lo hi ≡ a → (b : Bool) → ltb (key (lo + (hi - lo) / 2)) c ≡ b
          → ((x y : ℕ) → x ≤ y → (x ≤ lower_key turns key c x y) × (lower_key turns key c x y ≤ y))
          → (lo ≤ lower_key (suc turns) key c lo hi) × (lower_key (suc turns) key c lo hi ≤ hi)
      go false s b t r = let m = ltb-false lo hi s in let e = lower_end (suc turns) lo hi m in omega arith
      go true s true t r =
          let m = ltb-true lo hi s in
          let e = lower_turn turns lo hi true m t in
          let i = r (lo + (hi - lo) / 2 + 1) hi (omega arith) in
          omega arith
      go true s false t r =
          let m = ltb-true lo hi s in
          let e = lower_turn turns lo hi false m t in
          let i = r lo (lo + (hi - lo) / 2) (omega arith) in
          omega arith

module _ (key : ℕ → ℕ) (n c : ℕ) (up : Rising key n) where
  rising_le : (i j : ℕ) → i ≤ j → j < n → key i ≤ key j
  rising_le i j l m = go (ltb i j) refl
    where
      go : (b : Bool) → ltb i j ≡ b → key i ≤ key j
      go true t = let s = up i j (ltb-true i j t) m in omega arith
      go false t = let s = ltb-false i j t in let e : i ≡ j = omega arith in let q = ap key e in omega arith

  -- keys below c before lo, and none from hi on
  pub record Span (turns lo hi : ℕ) : Type 0 where
    pub ordered : lo ≤ hi
    pub fits : hi ≤ n
    pub enough : hi - lo ≤ turns
    pub before : (e : ℕ) → e < lo → key e < c
    pub after : (e : ℕ) → hi ≤ e → e < n → c ≤ key e

  span_end : (turns lo hi k : ℕ) → Span turns lo hi → hi ≤ lo → k ≡ lo → Cut key n k c
  span_end turns lo hi k w l q = let a = w.ordered in let b = w.fits in record { fits = omega arith; before = λ e m. w.before e (omega arith); after = λ e m. w.after e (omega arith) }

  span_up : (turns lo hi : ℕ) → Span (suc turns) lo hi → lo < hi → key (lo + (hi - lo) / 2) < c → Span turns (lo + (hi - lo) / 2 + 1) hi
  span_up turns lo hi w l q =
      let b = w.fits in
      let d = w.enough in
      record {
        ordered = omega arith;
        fits = b;
        enough = omega arith;
        before = λ e m. let x = rising_le e (lo + (hi - lo) / 2) (omega arith) (omega arith) in omega arith;
        after = w.after;
      }

  span_down : (turns lo hi : ℕ) → Span (suc turns) lo hi → lo < hi → c ≤ key (lo + (hi - lo) / 2) → Span turns lo (lo + (hi - lo) / 2)
  span_down turns lo hi w l q =
      let b = w.fits in
      let d = w.enough in
      record {
        ordered = omega arith;
        fits = omega arith;
        enough = omega arith;
        before = w.before;
        after = λ e m i. let x = rising_le (lo + (hi - lo) / 2) e m i in omega arith;
      }

  pub lower_span : (turns lo hi : ℕ) → Span turns lo hi → Cut key n (lower_key turns key c lo hi) c
  lower_span zero lo hi w = span_end zero lo hi (lower_key 0 key c lo hi) w (let a = w.ordered in let b = w.enough in omega arith) (lower_zero key c lo hi)
  lower_span (suc turns) lo hi w = go (ltb lo hi) refl (ltb (key (lo + (hi - lo) / 2)) c) refl (lower_span turns)
    where
      go : (s : Bool) → ltb lo hi ≡ s → (t : Bool) → ltb (key (lo + (hi - lo) / 2)) c ≡ t → ((x y : ℕ) → Span turns x y → Cut key n (lower_key turns key c x y) c) → Cut key n (lower_key (suc turns) key c lo hi) c
      go false p t q r = let l = ltb-false lo hi p in span_end (suc turns) lo hi (lower_key (suc turns) key c lo hi) w l (lower_end key c (suc turns) lo hi l)
      go true p true q r =
          let l = ltb-true lo hi p in
          subst (λ (k : ℕ). Cut key n k c) (sym (lower_turn key c turns lo hi true l q)) (r (lo + (hi - lo) / 2 + 1) hi (span_up turns lo hi w l (ltb-true (key (lo + (hi - lo) / 2)) c q)))
      go true p false q r =
          let l = ltb-true lo hi p in
          subst (λ (k : ℕ). Cut key n k c) (sym (lower_turn key c turns lo hi false l q)) (r lo (lo + (hi - lo) / 2) (span_down turns lo hi w l (ltb-false (key (lo + (hi - lo) / 2)) c q)))

  -- the first place whose key is not below c
  pub lower_first : Cut key n (lower_key n key c 0 n) c
  lower_first = lower_span n 0 n (record { ordered = omega arith; fits = omega arith; enough = omega arith; before = λ e l. absurd (omega arith); after = λ e a b. absurd (omega arith) })

  -- which is the number of keys below c
  pub lower_count : lower_key n key c 0 n ≡ below_of key n c
  lower_count = sym (cut_count key n (lower_key n key c 0 n) c lower_first)

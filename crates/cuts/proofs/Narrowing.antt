-- The search that narrows lo to hi: its steps, its bound for any ranks, and the least id that it finds where ranks rise. Assumes nothing.
use mathlib.Core.Path.{◌≡◌, refl, sym, ap, subst, ◌∙◌}
use mathlib.Core.Bool.{Bool, true, false, cond}
use Prim.Native.Nat.{ℕ, zero, suc, ◌+◌, ◌-◌, ◌/◌, ◌≤◌, ◌<◌}
use native.Mathlib.Nat.{le_of_suc-le-suc, lt_of_not-le}
use native.Mathlib.Omega.{arith}
use lib.Dec.{leb, ltb}
use borrow.Author.Tests.{ltb-true, ltb-false, leb-true, leb-false, lt-ltb, le-ltb, le-leb, lt-leb}
use Rattle.cuts.specs.Plan.{narrow_in, narrowed}

-- y is the first with f y of m or more
pub record First (f : ℕ → ℕ) (m y : ℕ) : Type 0 where
  pub enough : m ≤ f y
  pub first : (z : ℕ) → m ≤ f z → y ≤ z

module _ (f : ℕ → ℕ) (m : ℕ) where
  -- ---- with turns enough

  in_end : (t lo hi : ℕ) → hi ≤ lo → narrow_in t f m lo hi ≡ lo
  unfolding narrow_in
  in_end zero lo hi l = refl
  in_end (suc t) lo hi l =
      ap (λ (b : Bool). cond b (cond (leb m (f (lo + (hi - lo) / 2))) (narrow_in t f m lo (lo + (hi - lo) / 2)) (narrow_in t f m (lo + (hi - lo) / 2 + 1) hi)) lo) (le-ltb lo hi l)

  in_turn : (t lo hi : ℕ) (b : Bool) → lo < hi → leb m (f (lo + (hi - lo) / 2)) ≡ b
      → narrow_in (suc t) f m lo hi ≡ cond b (narrow_in t f m lo (lo + (hi - lo) / 2)) (narrow_in t f m (lo + (hi - lo) / 2 + 1) hi)
  unfolding narrow_in
  in_turn t lo hi b l e =
      ap (λ (b : Bool). cond b (cond (leb m (f (lo + (hi - lo) / 2))) (narrow_in t f m lo (lo + (hi - lo) / 2)) (narrow_in t f m (lo + (hi - lo) / 2 + 1) hi)) lo) (lt-ltb lo hi l)
      ∙ ap (λ (b : Bool). cond b (narrow_in t f m lo (lo + (hi - lo) / 2)) (narrow_in t f m (lo + (hi - lo) / 2 + 1) hi)) e

  in_same : (t u lo hi : ℕ) → hi - lo ≤ t → hi - lo ≤ u → narrow_in t f m lo hi ≡ narrow_in u f m lo hi
  in_same zero u lo hi p q = let l : hi ≤ lo = omega arith in in_end 0 lo hi l ∙ sym (in_end u lo hi l)
  in_same (suc t) zero lo hi p q = let l : hi ≤ lo = omega arith in in_end (suc t) lo hi l ∙ sym (in_end 0 lo hi l)
  in_same (suc t) (suc u) lo hi p q = go (ltb lo hi) refl (leb m (f (lo + (hi - lo) / 2))) refl (in_same t u)
    where
      go : (a : Bool) → ltb lo hi ≡ a → (b : Bool) → leb m (f (lo + (hi - lo) / 2)) ≡ b
          → ((x y : ℕ) → y - x ≤ t → y - x ≤ u → narrow_in t f m x y ≡ narrow_in u f m x y)
          → narrow_in (suc t) f m lo hi ≡ narrow_in (suc u) f m lo hi
      go false d b e r = let l = ltb-false lo hi d in in_end (suc t) lo hi l ∙ sym (in_end (suc u) lo hi l)
      go true d true e r =
          let l = ltb-true lo hi d in
          in_turn t lo hi true l e ∙ r lo (lo + (hi - lo) / 2) (omega arith) (omega arith) ∙ sym (in_turn u lo hi true l e)
      go true d false e r =
          let l = ltb-true lo hi d in
          in_turn t lo hi false l e ∙ r (lo + (hi - lo) / 2 + 1) hi (omega arith) (omega arith) ∙ sym (in_turn u lo hi false l e)

  -- ---- a step

  pub narrowed_end : (lo hi : ℕ) → hi ≤ lo → narrowed f m lo hi ≡ lo
  unfolding narrowed
  narrowed_end lo hi l = in_end (hi - lo) lo hi l

  pub narrowed_low : (lo hi : ℕ) → lo < hi → m ≤ f (lo + (hi - lo) / 2) → narrowed f m lo hi ≡ narrowed f m lo (lo + (hi - lo) / 2)
  unfolding narrowed
  narrowed_low lo hi l e =
      in_same (hi - lo) (suc (hi - lo)) lo hi (omega arith) (omega arith)
      ∙ in_turn (hi - lo) lo hi true l (le-leb m (f (lo + (hi - lo) / 2)) e)
      ∙ in_same (hi - lo) (lo + (hi - lo) / 2 - lo) lo (lo + (hi - lo) / 2) (omega arith) (omega arith)

  pub narrowed_high : (lo hi : ℕ) → lo < hi → f (lo + (hi - lo) / 2) < m → narrowed f m lo hi ≡ narrowed f m (lo + (hi - lo) / 2 + 1) hi
  unfolding narrowed
  narrowed_high lo hi l e =
      in_same (hi - lo) (suc (hi - lo)) lo hi (omega arith) (omega arith)
      ∙ in_turn (hi - lo) lo hi false l (lt-leb m (f (lo + (hi - lo) / 2)) e)
      ∙ in_same (hi - lo) (hi - (lo + (hi - lo) / 2 + 1)) (lo + (hi - lo) / 2 + 1) hi (omega arith) (omega arith)

  -- a call's answer, where its rank k at the middle sends it on
  pub step_low : (lo hi k r : ℕ) → lo < hi → k ≡ f (lo + (hi - lo) / 2) → m ≤ k → r ≡ narrowed f m lo (lo + (hi - lo) / 2) → r ≡ narrowed f m lo hi
  step_low lo hi k r l e h q = q ∙ sym (narrowed_low lo hi l (subst (λ (n : ℕ). m ≤ n) e h))

  pub step_high : (lo hi k r : ℕ) → lo < hi → k ≡ f (lo + (hi - lo) / 2) → k < m → r ≡ narrowed f m (lo + (hi - lo) / 2 + 1) hi → r ≡ narrowed f m lo hi
  step_high lo hi k r l e h q = q ∙ sym (narrowed_high lo hi l (subst (λ (n : ℕ). n < m) e h))

  -- ---- for any ranks

  in_between : (t lo hi : ℕ) → lo ≤ hi → (lo ≤ narrow_in t f m lo hi) × (narrow_in t f m lo hi ≤ hi)
  unfolding narrow_in
  in_between zero lo hi l = (omega arith, l)
  in_between (suc t) lo hi l = go (ltb lo hi) refl (leb m (f (lo + (hi - lo) / 2))) refl (in_between t)
    where
      go : (a : Bool) → ltb lo hi ≡ a → (b : Bool) → leb m (f (lo + (hi - lo) / 2)) ≡ b
          → ((x y : ℕ) → x ≤ y → (x ≤ narrow_in t f m x y) × (narrow_in t f m x y ≤ y)) → (lo ≤ narrow_in (suc t) f m lo hi) × (narrow_in (suc t) f m lo hi ≤ hi)
      go false d b e r = let q = in_end (suc t) lo hi (ltb-false lo hi d) in omega arith
      go true d true e r =
          let k = ltb-true lo hi d in
          let q = in_turn t lo hi true k e in
          let i = r lo (lo + (hi - lo) / 2) (omega arith) in
          omega arith
      go true d false e r =
          let k = ltb-true lo hi d in
          let q = in_turn t lo hi false k e in
          let i = r (lo + (hi - lo) / 2 + 1) hi (omega arith) in
          omega arith

  pub narrowed_between : (lo hi : ℕ) → lo ≤ hi → (lo ≤ narrowed f m lo hi) × (narrowed f m lo hi ≤ hi)
  unfolding narrowed
  narrowed_between lo hi l = in_between (hi - lo) lo hi l

  -- ---- where they rise

  module _ (up : (a b : ℕ) → a ≤ b → f a ≤ f b) where
    stop : (t lo hi : ℕ) → hi ≤ lo → lo ≤ hi → m ≤ f hi → ((y : ℕ) → y < lo → f y < m) → First f m (narrow_in t f m lo hi)
    stop t lo hi k l h b =
        let e : hi ≡ lo = omega arith in
        subst (First f m) (sym (in_end t lo hi k)) (record { enough = rw e at h; first = λ z q. le_of_suc-le-suc (lt_of_not-le (λ (n : suc z ≤ lo). let w = b z n in omega arith)) })

    in_first : (t lo hi : ℕ) → hi - lo ≤ t → lo ≤ hi → m ≤ f hi → ((y : ℕ) → y < lo → f y < m) → First f m (narrow_in t f m lo hi)
    in_first zero lo hi p l h b = stop zero lo hi (omega arith) l h b
    in_first (suc t) lo hi p l h b = go (ltb lo hi) refl (leb m (f (lo + (hi - lo) / 2))) refl (in_first t)
      where
        go : (a : Bool) → ltb lo hi ≡ a → (c : Bool) → leb m (f (lo + (hi - lo) / 2)) ≡ c
            → ((x y : ℕ) → y - x ≤ t → x ≤ y → m ≤ f y → ((z : ℕ) → z < x → f z < m) → First f m (narrow_in t f m x y))
            → First f m (narrow_in (suc t) f m lo hi)
        go false d c e r = stop (suc t) lo hi (ltb-false lo hi d) l h b
        go true d true e r =
            let k = ltb-true lo hi d in
            subst (First f m) (sym (in_turn t lo hi true k e)) (r lo (lo + (hi - lo) / 2) (omega arith) (omega arith) (leb-true m (f (lo + (hi - lo) / 2)) e) b)
        go true d false e r =
            let k = ltb-true lo hi d in
            let g = leb-false m (f (lo + (hi - lo) / 2)) e in
            subst (First f m) (sym (in_turn t lo hi false k e))
            (r (lo + (hi - lo) / 2 + 1) hi (omega arith) (omega arith) h (λ z q. let w = up z (lo + (hi - lo) / 2) (omega arith) in omega arith))

    pub narrowed_first : (lo hi : ℕ) → lo ≤ hi → m ≤ f hi → ((y : ℕ) → y < lo → f y < m) → First f m (narrowed f m lo hi)
    unfolding narrowed
    narrowed_first lo hi l h b = in_first (hi - lo) lo hi (omega arith) l h b

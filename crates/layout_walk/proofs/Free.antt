-- The search for the first free place, turn by turn, and the owners counted. Assumes nothing.
use mathlib.Core.Path.{◌≡◌, refl, sym, ◌∙◌, ap, ap₂}
use mathlib.Core.List.{List}
use mathlib.Core.Bool.{Bool, cond}
use Prim.Native.Nat.{ℕ, suc, ◌+◌, ◌-◌, ◌≤◌, ◌<◌, max}
use mathlib.Core.Logic.{◌⊎◌, inl, inr}
use Rattle.std.proofs.lemmas.Bool.{cases_lt}
use native.Mathlib.Numerals.{add-one}
use native.Mathlib.Omega.{arith}
use lib.ListN.{get_or}
use lib.Dec.{eqb}
use mir.Val.{bool_byte}
use borrow.Author.Tests.{eq-eqb, ne_eqb}
use Rattle.sums.specs.Ids.{Ids, count}
use Rattle.sums.proofs.Counts.{count_next}
use Rattle.layout.specs.Free.{first_free}

module _ (f : ℕ → ℕ) (k i : ℕ) where
  module _ (l : i < k) where
    left : k - i ≡ suc (k - (i + 1))
    left = omega arith

    turn : (b : Bool) → eqb (f i) 0 ≡ b → cond b i (first_free f (suc i) (k - (i + 1))) ≡ first_free f i (k - i)
    unfolding first_free
    turn b e = ap (λ (c : Bool). cond c i (first_free f (suc i) (k - (i + 1)))) (sym e) ∙ ap (first_free f i) (sym left)

    pub free_here : f i ≡ 0 → i ≡ first_free f i (k - i)
    free_here e = turn _ (eq-eqb (f i) 0 e)

    pub free_more : (f i ≡ 0 → ⊥) → first_free f (i + 1) (k - (i + 1)) ≡ first_free f i (k - i)
    free_more n = ap (λ (j : ℕ). first_free f j (k - (i + 1))) (add-one i) ∙ turn _ (ne_eqb (f i) 0 n)

  pub free_end : k ≤ i → i ≡ first_free f i (k - i)
  unfolding first_free
  free_end l = let e : 0 ≡ k - i = omega arith in ap (first_free f i) e

-- none was found up to j, where the range ended
module _ (f : ℕ → ℕ) (k i j m : ℕ) (b : i ≤ k → j ≤ k) (l : k ≤ j) (g : first_free f j (k - j) ≡ first_free f i (k - i)) (e : m ≡ max i k) where
  none_by : (i < k) ⊎ (k ≤ i) → m ≡ first_free f i (k - i)
  none_by (inl n) = let d : m ≡ j = omega (arith, b (omega arith)) in d ∙ free_end f k j l ∙ g
  none_by (inr n) = let d : m ≡ i = omega arith in d ∙ free_end f k i n

  pub free_none : m ≡ first_free f i (k - i)
  free_none = none_by (cases_lt i k)

-- ---- owners that start at a, which was computed

module _ (t : List ℕ) (a b : ℕ) (e : a ≡ b) where
  pub free_from : (r i f k : ℕ) → i ≡ f → r ≡ first_free (λ (j : ℕ). get_or t (a + j) 0) i (k - i) → r ≡ first_free (λ (j : ℕ). get_or t (b + j) 0) f (k - f)
  free_from r i f k g h = h ∙ ap₂ (λ (n m : ℕ). first_free (λ (j : ℕ). get_or t (n + j) 0) m (k - m)) e g

  pub free_first : (r k : ℕ) → r ≡ first_free (λ (j : ℕ). get_or t (a + j) 0) 0 (k - 0) → r ≡ first_free (λ (j : ℕ). get_or t (b + j) 0) 0 k
  free_first r k h = let m : k - 0 ≡ k = omega arith in free_from r 0 0 k refl h ∙ ap (first_free (λ (j : ℕ). get_or t (b + j) 0) 0) m

-- one more counted
pub count_more : (P : Ids) (i a : ℕ) (b : Bool) → a ≡ count P i → b ≡ P i → a + bool_byte b ≡ count P (i + 1)
count_more P i a b p q = ap₂ (λ (x : ℕ) (y : Bool). x + bool_byte y) p q ∙ sym (count_next P i)

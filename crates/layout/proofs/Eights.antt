-- Eight direct entries at once: what each one is. Assumes nothing.
use mathlib.Core.Path.{◌≡◌, sym, ◌∙◌, ap}
use mathlib.Core.List.{List}
use mathlib.Core.Bool.{Bool, true, false, not, ◌&&◌}
use Prim.Native.Nat.{ℕ, ◌+◌, ◌*◌, ◌%◌, ◌≤◌, ◌<◌}
use native.Mathlib.Omega.{arith}
use lib.ListN.{get_or}
use lib.Dec.{leb, eqb}
use borrow.Author.Tests.{leb-true, not-true, not-false}
use Rattle.sums.proofs.Rules.{both, all_of, eqb_of}
use Rattle.layout.specs.Sizes.{direct_at}
use Rattle.layout.specs.Entries.{word_at, prefix_at}
use Rattle.layout.specs.Eight.{eight_are, eight_absent}
use Rattle.document.specs.declared.sizes.Sizes.{Sizes}
use Rattle.layout.proofs.Entries.{word_below, prefix_below}

-- ---- the test: the run is there, or not

module _ (t : List ℕ) (d e : ℕ) where
  -- where b says that it is there
  by_run : Bool → Bool
  by_run b = b && eight_are t (direct_at e) 0

  pub eight_no : not (eqb (e % 8) 0 && leb (e + 8) d) ≡ true → false ≡ eight_absent t d e
  unfolding eight_absent by_run
  eight_no h = ap by_run (sym (not-true (eqb (e % 8) 0 && leb (e + 8) d) h))

  module _ (h : not (eqb (e % 8) 0 && leb (e + 8) d) ≡ false) where
    pub eight_yes : (b : Bool) → b ≡ eight_are t (direct_at e) 0 → b ≡ eight_absent t d e
    unfolding eight_absent by_run
    eight_yes b f = f ∙ ap by_run (sym (not-false (eqb (e % 8) 0 && leb (e + 8) d) h))

    pub eight_there : e + 8 ≤ d
    eight_there = leb-true (e + 8) d (both (eqb (e % 8) 0) (leb (e + 8) d) (not-false _ h)).1

-- ---- each of the eight

each : (t : List ℕ) (a v : ℕ) → eight_are t a v ≡ true → (i : ℕ) → i < 8 → get_or t (a + 2 * i) 0 ≡ v
each t a v y = (all_of (λ (i : ℕ). eqb (get_or t (a + 2 * i) 0) v) 8 (λ (i : ℕ) (l : i < 8). eqb_of (get_or t (a + 2 * i) 0) v)).sound y

module _ (h : Sizes) (t : List ℕ) (e : ℕ) where
  pub absent_there : (d : ℕ) → d ≡ h.d → eight_absent t d e ≡ true → e + 8 ≤ h.d
  unfolding eight_absent
  absent_there d ed y =
      let a = both (eqb (e % 8) 0 && leb (e + 8) d) (eight_are t (direct_at e) 0) y in
      let l = leb-true (e + 8) d (both (eqb (e % 8) 0) (leb (e + 8) d) a.0).1 in
      omega (arith, ed)

  pub absent_each : (d : ℕ) → d ≡ h.d → eight_absent t d e ≡ true → (i : ℕ) → i < 8 → word_at h t (e + i) ≡ 0
  unfolding eight_absent
  absent_each d ed y i m =
      let k : direct_at (e + i) ≡ direct_at e + 2 * i = omega arith in
      let l = absent_there d ed y in
      sym (word_below h t (e + i) (omega arith))
      ∙ (ap (λ (j : ℕ). get_or t j 0) k ∙ each t (direct_at e) 0 (both (eqb (e % 8) 0 && leb (e + 8) d) (eight_are t (direct_at e) 0) y).1 i m)

  pub prefix_each : (n : ℕ) → e + 8 ≤ h.d → eight_are t (direct_at e + 1) n ≡ true → (i : ℕ) → i < 8 → prefix_at h t (e + i) ≡ n
  prefix_each n l y i m =
      let k : direct_at (e + i) + 1 ≡ direct_at e + 1 + 2 * i = omega arith in
      sym (prefix_below h t (e + i) (omega arith)) ∙ (ap (λ (j : ℕ). get_or t j 0) k ∙ each t (direct_at e + 1) n y i m)

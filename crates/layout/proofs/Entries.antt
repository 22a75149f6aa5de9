-- An entry's parts, below D and past it. Assumes nothing.
use mathlib.Core.Path.{◌≡◌, sym, ◌∙◌, ap}
use mathlib.Core.List.{List}
use mathlib.Core.Bool.{Bool, cond}
use Prim.Native.Nat.{ℕ, ◌+◌, ◌*◌, ◌-◌, ◌≤◌, ◌<◌}
use native.Mathlib.Omega.{arith}
use lib.ListN.{get_or}
use lib.Dec.{ltb}
use borrow.Author.Tests.{lt-ltb, le-ltb}
use Rattle.layout.specs.Sizes.{direct_at, over_at, header_at}
use Rattle.layout.specs.Entries.{chunk_at, word_at, prefix_place, prefix_at}
use Rattle.document.specs.declared.sizes.Sizes.{Sizes}

-- the choice between two numbers by e below d
module _ (a b e d : ℕ) where
  chosen_below : e < d → a ≡ cond (ltb e d) a b
  chosen_below l = ap (λ (y : Bool). cond y a b) (sym (lt-ltb e d l))

  chosen_past : d ≤ e → b ≡ cond (ltb e d) a b
  chosen_past l = ap (λ (y : Bool). cond y a b) (sym (le-ltb e d l))

-- where entry e's prefix stands
module _ (h : Sizes) (e : ℕ) where
  pub place_below : e < h.d → direct_at e + 1 ≡ prefix_place h e
  place_below l = chosen_below (direct_at e + 1) (over_at h (e - h.d) + 2) e h.d l

  pub place_past : h.d ≤ e → over_at h (e - h.d) + 2 ≡ prefix_place h e
  place_past l = chosen_past (direct_at e + 1) (over_at h (e - h.d) + 2) e h.d l

module _ (h : Sizes) (t : List ℕ) (e : ℕ) where
  module _ (l : e < h.d) where
    pub chunk_below : e ≡ chunk_at h t e
    unfolding chunk_at
    chunk_below = chosen_below e (get_or t (over_at h (e - h.d)) 0) e h.d l

    pub word_below : get_or t (direct_at e) 0 ≡ word_at h t e
    unfolding word_at
    word_below = ap (λ (i : ℕ). get_or t i 0) (chosen_below (direct_at e) (over_at h (e - h.d) + 1) e h.d l)

    pub prefix_below : get_or t (direct_at e + 1) 0 ≡ prefix_at h t e
    unfolding prefix_at
    prefix_below = ap (λ (i : ℕ). get_or t i 0) (place_below h e l)

  module _ (l : h.d ≤ e) where
    pub chunk_past : get_or t (over_at h (e - h.d)) 0 ≡ chunk_at h t e
    unfolding chunk_at
    chunk_past = chosen_past e (get_or t (over_at h (e - h.d)) 0) e h.d l

    pub word_past : get_or t (over_at h (e - h.d) + 1) 0 ≡ word_at h t e
    unfolding word_at
    word_past = ap (λ (i : ℕ). get_or t i 0) (chosen_past (direct_at e) (over_at h (e - h.d) + 1) e h.d l)

    pub prefix_past : get_or t (over_at h (e - h.d) + 2) 0 ≡ prefix_at h t e
    unfolding prefix_at
    prefix_past = ap (λ (i : ℕ). get_or t i 0) (place_past h e l)

-- the word and the chunk id of entry e, where D was read
module _ (t : List ℕ) (e d : ℕ) (ed : d ≡ get_or t 2 0) where
  pub word_direct : e < d → get_or t (16 + 2 * e) 0 ≡ word_at (header_at t) t e
  word_direct l = word_below (header_at t) t e (omega (arith, ed))

  pub word_over : d ≤ e → get_or t (16 + 2 * d + 3 * (e - d) + 1) 0 ≡ word_at (header_at t) t e
  word_over l = ap (λ (k : ℕ). get_or t (16 + 2 * k + 3 * (e - k) + 1) 0) ed ∙ word_past (header_at t) t e (omega (arith, ed))

  pub chunk_direct : e < d → e ≡ chunk_at (header_at t) t e
  chunk_direct l = chunk_below (header_at t) t e (omega (arith, ed))

  pub chunk_over : d ≤ e → get_or t (16 + 2 * d + 3 * (e - d)) 0 ≡ chunk_at (header_at t) t e
  chunk_over l = ap (λ (k : ℕ). get_or t (16 + 2 * k + 3 * (e - k)) 0) ed ∙ chunk_past (header_at t) t e (omega (arith, ed))

-- Prefixes, a turn at a time: what has been written, and the members so far. Assumes nothing.
use mathlib.Core.Path.{◌≡◌, refl, sym, ap, subst, ◌∙◌}
use mathlib.Core.List.{List}
use Prim.Native.Nat.{ℕ, ◌+◌, ◌≤◌, ◌<◌}
use native.Mathlib.Numerals.{add-one}
use native.Mathlib.Omega.{arith}
use lib.ListN.{set}
use Rattle.sums.specs.Sums.{sum_to}
use Rattle.sums.proofs.Sums.{sum_zero, sum_next, sum_bound}
use Rattle.numbers.proofs.Powers.{powers}
use Rattle.dense.proofs.Counts.{bits_le}
use Rattle.document.specs.Sizes.{InRange, top}
use Rattle.layout.specs.Sizes.{over_count}
use Rattle.layout.specs.Places.{decoded, page_part}
use Rattle.layout.specs.Entries.{entries, place_at, prefix_place}
use Rattle.layout.specs.Follows.{size_of}
use Rattle.document.specs.declared.sizes.Sizes.{Sizes}
use Rattle.layout.specs.declared.place.Place.{Place}
use Rattle.layout.specs.declared.place.Place.TheVariants.{Absent, Sparse, Dense}
use Rattle.ranks.specs.Form.{prefixed}
use Rattle.ranks.proofs.Prefixes.{prefixed_word}
use Rattle.rank_counts.specs.Counts.{entry_size, Inside, Places}

-- ---- one entry

pub page_there : (h : Sizes) (t : List ℕ) (e : ℕ) (q : Place) → q ≡ place_at h t e → Inside h (place_at h t e) → (p : ℕ) → q ≡ Dense p → p < h.p
page_there h t e q f i p g = subst (Inside h) (sym f ∙ g) i

-- ---- members are few

size_small : (h : Sizes) (pages : List ℕ) → InRange h → (p : Place) → Inside h p → size_of h pages p ≤ 33554432
size_small h pages z Absent i = omega arith
size_small h pages z (Sparse r l) i = let b = z.m_high in omega arith
size_small h pages z (Dense p) i = let q = powers h.s z.s_low z.s_high in let b = bits_le (page_part h pages p) (top h) in omega (arith, q.most)

pub sizes_small : (h : Sizes) (pages t : List ℕ) → InRange h → over_count t ≤ 65536 → Places h t → (e : ℕ) → e ≤ entries h t → sum_to (entry_size h pages t) e ≤ 10995116277760
unfolding entry_size
sizes_small h pages t z o w e l =
    let d = z.d_high in
    let a = sum_bound (entry_size h pages t) 33554432 e (λ i m. size_small h pages z (place_at h t i) (w.at i (omega arith))) in
    omega arith

-- ---- a turn

module _ (h : Sizes) (start : List ℕ) (f : ℕ → ℕ) where
  pub prefixed_none : prefixed h start f 0 ≡ start
  unfolding prefixed
  prefixed_none = refl

  pub prefixed_next : (e : ℕ) → prefixed h start f (e + 1) ≡ set (prefixed h start f e) (prefix_place h e) (f e)
  unfolding prefixed
  prefixed_next e = ap (prefixed h start f) (add-one e)

  -- entries' words are as they were
  module _ (now : List ℕ) (e : ℕ) (c : now ≡ prefixed h start f e) where
    pub place_kept : (i : ℕ) → place_at h now i ≡ place_at h start i
    place_kept i = ap (λ (xs : List ℕ). place_at h xs i) c ∙ ap decoded (prefixed_word h start f e i)

    pub size_kept : (pages : List ℕ) (i : ℕ) → entry_size h pages now i ≡ entry_size h pages start i
    unfolding entry_size
    size_kept pages i = ap (size_of h pages) (place_kept i)

    pub inside_kept : (i : ℕ) → Inside h (place_at h start i) → Inside h (place_at h now i)
    inside_kept i = subst (Inside h) (sym (place_kept i))

pub ruleset entry_turn = (prefixed_none, prefixed_next, sum_zero, sum_next)

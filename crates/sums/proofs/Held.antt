-- How many members an interval holds: a part of a plan holds S, the last one what is left. Assumes nothing.
use mathlib.Core.Path.{◌≡◌, refl, ap, ◌∙◌}
use mathlib.Core.Bool.{Bool, true, false, ◌&&◌}
use Prim.Native.Nat.{ℕ, zero, suc, ◌+◌, ◌-◌, ◌*◌, ◌^◌, ◌≤◌, ◌<◌, min}
use native.Mathlib.Omega.{arith}
use lib.Dec.{leb, ltb}
use borrow.Author.Tests.{leb-true, leb-false, ltb-true, ltb-false}
use lib.IntN.{pos}
use mir.Val.{bool_byte}
use Rattle.sums.specs.Ids.{Ids, count, total, rank}
use Rattle.sums.specs.Cuts.{size, parts, inside, held, part}
use Rattle.sums.proofs.Rules.{and_of, leb_of, ltb_of, same_test}
use Rattle.sums.proofs.Counts.{count_zero, count_suc, count_ext}
use Rattle.sums.proofs.Parts.{part_members}

-- ---- members ranked from a up to b

abbrev ranked_in : Ids → ℕ → ℕ → Ids
ranked_in P a b j = P j && (leb a (count P j) && ltb (count P j) b)

-- one more id: c members lie below it
one_more : (x : Bool) (a b c : ℕ) → a ≤ b → min b c - a + bool_byte (x && (leb a c && ltb c b)) ≡ min b (c + bool_byte x) - a
one_more false a b c l = omega arith
one_more true a b c l = go (leb a c) refl (ltb c b) refl
  where
    go : (y : Bool) → leb a c ≡ y → (z : Bool) → ltb c b ≡ z → min b c - a + bool_byte (leb a c && ltb c b) ≡ min b (c + 1) - a
    go true p true q = rw (p, q) (omega (arith, leb-true a c p, ltb-true c b q))
    go true p false q = rw (p, q) (omega (arith, leb-true a c p, ltb-false c b q))
    go false p z q = rw p (omega (arith, leb-false a c p))

count_ranked : (P : Ids) (a b n : ℕ) → a ≤ b → count (ranked_in P a b) n ≡ min b (count P n) - a
count_ranked P a b zero l = omega (arith, count_zero P, count_zero (ranked_in P a b))
count_ranked P a b (suc n) l =
    let ih = count_ranked P a b n l in
    let o = one_more (P n) a b (count P n) l in
    let c = ap (λ (m : ℕ). min b m - a) (count_suc P n) in
    omega (arith, count_suc (ranked_in P a b) n)

cut_off : (k s t : ℕ) → min ((k + 1) * s) t - k * s ≡ min s (t - k * s)
cut_off k s t = let e : (k + 1) * s ≡ k * s + s = omega arith in rw e (omega arith)

-- ---- a part's members

module _ (P : Ids) (S : ℕ) where
  part_test : (k : ℕ) → k < parts (total P) S → (j : ℕ) → j < 2 ^ 63 → (P j && inside (pos j) (part P S k)) ≡ ranked_in P (k * size S) ((k + 1) * size S) j
  unfolding rank
  part_test k l j h = go (P j) refl
    where
      go : (x : Bool) → P j ≡ x → (P j && inside (pos j) (part P S k)) ≡ (P j && (leb (k * size S) (count P j) && ltb (count P j) ((k + 1) * size S)))
      go true e =
          let d = part_members P S (pos j) (record { sfits = h }) e k l in
          ap (λ (b : Bool). P j && b) (same_test d (and_of (leb_of (k * size S) (count P j)) (ltb_of (count P j) ((k + 1) * size S))))
      go false e = rw e

  pub part_held : (k : ℕ) → k < parts (total P) S → held P (part P S k) ≡ min (size S) (total P - k * size S)
  unfolding held total
  part_held k l =
      count_ext (λ (j : ℕ). P j && inside (pos j) (part P S k)) (ranked_in P (k * size S) ((k + 1) * size S)) (2 ^ 63) (part_test k l)
      ∙ count_ranked P (k * size S) ((k + 1) * size S) (2 ^ 63) (omega arith)
      ∙ cut_off k (size S) (total P)

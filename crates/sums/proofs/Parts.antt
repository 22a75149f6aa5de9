-- The parts of a plan: where an id lies goes by its rank, every i64 lies in one part, and each part holds the members ranked from kS up to (k + 1)S. Assumes nothing.
use mathlib.Core.Path.{◌≡◌, refl, ap}
use mathlib.Core.Bool.{Bool, true, false, cond}
use Prim.Native.Nat.{ℕ, zero, suc, ◌+◌, ◌-◌, ◌*◌, ◌/◌, ◌^◌, ◌≤◌, ◌<◌}
use native.Mathlib.Nat.{le_of_suc-le-suc, lt_of_not-le, mul-le-mul_right, div-mul-le_self, lt-div-mul-add}
use native.Mathlib.Omega.{arith}
use lib.Dec.{leb, ltb}
use borrow.Author.Tests.{leb-true, leb-false, le-leb, lt-leb, ltb-true, ltb-false}
use lib.IntN.{ℤ, pos, negsuc}
use lib.Signed.{le_z}
use mir.Syntax.{w64}
use mir.Val.{SFits}
use Rattle.sums.specs.Rules.{Decides}
use Rattle.sums.specs.Ids.{Ids, has, total, rank}
use Rattle.sums.specs.Cuts.{Least, size, parts, before, none, under, inside, boundary, low_end, high_end, part}
use Rattle.sums.proofs.Rules.{and_of, same_of, leb_of, ltb_of}
use Rattle.sums.proofs.Least.{least_is, least_fits, count_least, least_iff, least_above}
use Rattle.sums.proofs.Ranks.{rank_below}
use Rattle.sums.proofs.Rounding.{size_pos, parts_pos, parts_enough, parts_tight}

module _ (P : Ids) (S : ℕ) where
  -- ---- boundaries

  pub boundary_is : (k : ℕ) → suc k < parts (total P) S → Least P (suc k * size S) (boundary P S (suc k))
  boundary_is k l = least_is P (suc k * size S) (let h = parts_tight (total P) S (suc k) (omega arith) l in omega arith)

  pub boundary_fits : (k : ℕ) → suc k < parts (total P) S → boundary P S (suc k) ≤ 2 ^ 63 - 1
  boundary_fits k l = least_fits P (suc k * size S) (parts_tight (total P) S (suc k) (omega arith) l)

  -- a part's first rank
  pub rank_low : (k : ℕ) → k < parts (total P) S → rank P (low_end P S k) ≡ k * size S
  unfolding rank low_end
  rank_low zero l = omega arith
  rank_low (suc k) l = let c = count_least (boundary_is k l) in omega arith

  -- ---- where an id lies

  low_of : (z : ℤ) → SFits w64 z → (k : ℕ) → k < parts (total P) S → Decides (le_z (low_end P S k) z) (k * size S ≤ rank P z)
  unfolding rank low_end
  low_of (pos y) f zero l = record { sound = λ h. omega arith; whole = λ h. refl }
  low_of (negsuc y) f zero l = record { sound = λ h. omega arith; whole = λ h. le-leb y (2 ^ 63 - 1) (let g = f.sfits in omega arith) }
  low_of (pos y) f (suc k) l = let i = least_iff (boundary_is k l) y in same_of (leb_of (boundary P S (suc k)) y) (λ h. let c = i.0 h in omega arith) (λ h. i.1 (omega arith))
  low_of (negsuc y) f (suc k) l = record { sound = λ h. absurd (let z : ◌≡◌ {A = ℕ} 0 1 = cc in omega arith); whole = λ h. absurd (omega (arith, size_pos S)) }

  pub high_last : (k : ℕ) → parts (total P) S ≤ suc k → high_end P S k ≡ none
  unfolding high_end
  high_last k l = let e = le-leb (parts (total P) S) (suc k) l in ap (λ (b : Bool). cond b none (before (pos (boundary P S (suc k))))) e

  pub high_next : (k : ℕ) → suc k < parts (total P) S → high_end P S k ≡ before (pos (boundary P S (suc k)))
  unfolding high_end
  high_next k l = let e = lt-leb (parts (total P) S) (suc k) l in ap (λ (b : Bool). cond b none (before (pos (boundary P S (suc k))))) e

  below_next : (z : ℤ) (k : ℕ) → suc k < parts (total P) S → Decides (under z (before (pos (boundary P S (suc k))))) (rank P z < suc k * size S)
  unfolding rank
  below_next (pos y) k l = let i = least_above (boundary_is k l) y in same_of (ltb_of y (boundary P S (suc k))) (λ h. let c = i.0 h in omega arith) (λ h. i.1 (omega arith))
  below_next (negsuc y) k l = record { sound = λ h. omega (arith, size_pos S); whole = λ h. refl }

  high_of : (z : ℤ) (k : ℕ) → Decides (under z (high_end P S k)) (suc k < parts (total P) S → rank P z < suc k * size S)
  high_of z k = go (leb (parts (total P) S) (suc k)) refl
    where
      Upto : Type 0
      Upto = suc k < parts (total P) S → rank P z < suc k * size S

      go : (b : Bool) → leb (parts (total P) S) (suc k) ≡ b → Decides (under z (high_end P S k)) Upto
      go true e =
          let l = leb-true (parts (total P) S) (suc k) e in
          rw (high_last k l) (record { sound = λ h m. absurd (omega arith); whole = λ h. refl })
      go false e =
          let l = leb-false (parts (total P) S) (suc k) e in
          rw (high_next k l) (same_of (below_next z k l) (λ h m. h) (λ h. h l))

  -- z lies in part k exactly when its rank has come to kS and, but in the last part, not to (k + 1)S
  pub place : (z : ℤ) → SFits w64 z → (k : ℕ) → k < parts (total P) S → Decides (inside z (part P S k)) ((k * size S ≤ rank P z) × (suc k < parts (total P) S → rank P z < suc k * size S))
  place z f k l = and_of (low_of z f k l) (high_of z k)

  -- ---- every i64 lies in one part

  part_order : (z : ℤ) → SFits w64 z → (j k : ℕ) → j < parts (total P) S → k < parts (total P) S → inside z (part P S j) ≡ true → inside z (part P S k) ≡ true → j ≤ k
  part_order z f j k a b p q = le_of_suc-le-suc (lt_of_not-le later)
    where
      later : suc k ≤ j → ⊥
      later l =
          let h = ((place z f j a).sound p).0 in
          let g = ((place z f k b).sound q).1 (omega arith) in
          let m : suc k * size S ≤ j * size S = mul-le-mul_right (size S) l in
          omega arith

  pub part_once : (z : ℤ) → SFits w64 z → (j k : ℕ) → j < parts (total P) S → k < parts (total P) S → inside z (part P S j) ≡ true → inside z (part P S k) ≡ true → j ≡ k
  part_once z f j k a b p q = let l = part_order z f j k a b p q in let m = part_order z f k j b a q p in omega arith

  pub part_covers : (z : ℤ) → SFits w64 z → (k : ℕ) × (k < parts (total P) S) × (inside z (part P S k) ≡ true)
  part_covers z f = go (ltb k n) refl
    where
      k : ℕ
      k = rank P z / size S

      n : ℕ
      n = parts (total P) S

      low : k * size S ≤ rank P z
      low = div-mul-le_self (rank P z) (size S)

      go : (t : Bool) → ltb k n ≡ t → (k : ℕ) × (k < n) × (inside z (part P S k) ≡ true)
      go true e = let l = ltb-true k n e in (k, l, (place z f k l).whole (low, λ m. omega (arith, lt-div-mul-add {a = rank P z} (size_pos S))))
      go false e =
          let l = ltb-false k n e in
          let m : (n - 1) * size S ≤ k * size S = mul-le-mul_right (size S) (omega arith) in
          let i : n - 1 < n = omega (arith, parts_pos (total P) S) in
          (n - 1, i, (place z f (n - 1) i).whole ((let h = low in omega arith), λ h. absurd (omega arith)))

  -- ---- what a part holds

  -- no member's rank comes to the end of the last part
  last_above : (z : ℤ) → SFits w64 z → has P z ≡ true → (k : ℕ) → (suc k < parts (total P) S → rank P z < suc k * size S) → rank P z < suc k * size S
  last_above z f e k h = go (ltb (suc k) (parts (total P) S)) refl
    where
      go : (t : Bool) → ltb (suc k) (parts (total P) S) ≡ t → rank P z < suc k * size S
      go true q = h (ltb-true (suc k) (parts (total P) S) q)
      go false q =
          let m : parts (total P) S * size S ≤ suc k * size S = mul-le-mul_right (size S) (ltb-false (suc k) (parts (total P) S) q) in
          omega (arith, rank_below P z f e, parts_enough (total P) S)

  pub part_members : (z : ℤ) → SFits w64 z → has P z ≡ true → (k : ℕ) → k < parts (total P) S → Decides (inside z (part P S k)) ((k * size S ≤ rank P z) × (rank P z < (k + 1) * size S))
  part_members z f e k l = same_of (place z f k l) (λ h. (h.0, (let m = last_above z f e k h.1 in omega arith))) (λ h. (h.0, λ m. (let g = h.1 in omega arith)))

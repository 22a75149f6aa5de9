-- Cuttings of the i64 line: none has fewer intervals than the plan, and the plan is one. Assumes nothing.
use mathlib.Core.Path.{◌≡◌}
use mathlib.Core.Bool.{Bool, true, false, ◌&&◌}
use Prim.Native.Nat.{ℕ, ◌^◌, ◌≤◌, ◌<◌}
use native.Mathlib.Omega.{arith}
use lib.IntN.{pos}
use mir.Val.{bool_byte}
use Rattle.sums.specs.Sums.{sum_to}
use Rattle.sums.specs.Ids.{Ids, count, total}
use Rattle.sums.specs.Cuts.{size, parts, Interval, inside, held, part, Cutting}
use Rattle.sums.proofs.Sums.{sum_le, sum_bound, sum_swap, sum_part}
use Rattle.sums.proofs.Rounding.{parts_least}
use Rattle.sums.proofs.Parts.{part_covers}
use Rattle.sums.proofs.Held.{part_held}

module _ (P : Ids) (S n : ℕ) (cut : ℕ → Interval) (c : Cutting P S n cut) where
  -- a member lies in some interval
  member_held : (j : ℕ) → j < 2 ^ 63 → bool_byte (P j) ≤ sum_to (λ (k : ℕ). bool_byte (P j && inside (pos j) (cut k))) n
  member_held j l =
      let f = c.covers (pos j) (record { sfits = l }) in
      let s = sum_part (λ (k : ℕ). bool_byte (P j && inside (pos j) (cut k))) f.0 n f.1 in
      go (P j) (inside (pos j) (cut f.0)) f.2 s
    where
      go : (p i : Bool) {m : ℕ} → i ≡ true → bool_byte (p && i) ≤ m → bool_byte p ≤ m
      go true i e h = rw e at h
      go false i e h = h

  total_held : total P ≤ sum_to (λ (k : ℕ). held P (cut k)) n
  unfolding total held count
  total_held =
      let a = sum_le (λ (j : ℕ). bool_byte (P j)) (λ (j : ℕ). sum_to (λ (k : ℕ). bool_byte (P j && inside (pos j) (cut k))) n) (2 ^ 63) member_held in
      let b = sum_swap (λ (k j : ℕ). bool_byte (P j && inside (pos j) (cut k))) n (2 ^ 63) in
      omega arith

  -- intervals may overlap
  pub cutting_least : parts (total P) S ≤ n
  cutting_least =
      let f = c.covers (pos 0) (record { sfits = omega arith }) in
      let b = sum_bound (λ (k : ℕ). held P (cut k)) (size S) n c.small in
      parts_least (total P) S n (let l = f.1 in omega arith) (omega (arith, total_held))

pub parts_cutting : (P : Ids) (S : ℕ) → Cutting P S (parts (total P) S) (part P S)
parts_cutting P S = record {
  covers = part_covers P S;
  small = λ k l. omega (arith, part_held P S k l);
}

-- A bit map as a plain set of offsets: its members after each change. Assumes nothing.
use mathlib.Core.Path.{◌≡◌, ap}
use mathlib.Core.Bool.{false, ◌||◌}
use mathlib.Core.List.{List}
use Prim.Native.Nat.{ℕ, ◌*◌, ◌≤◌, ◌<◌}
use native.Mathlib.Omega.{arith}
use lib.Dec.{eqb}
use lib.ListN.{length, replicate}
use Rattle.std.proofs.lemmas.Bool.Decides.{nat_tests}
use Rattle.dense.specs.Bits.{bit, is_set, with_bit, or_words}
use Rattle.dense.proofs.Bits.{bit_lt, bit_past, bit_with_same, bit_with_other, bit_or_law, bit_zeros, zero_clear}

pub is_set_past : (ws : List ℕ) (o : ℕ) → 64 * length ws ≤ o → is_set ws o ≡ false
is_set_past ws o l = zero_clear ws o (bit_past ws o l)

pub is_set_zeros : (n o : ℕ) → is_set (replicate n 0) o ≡ false
is_set_zeros n o = zero_clear (replicate n 0) o (bit_zeros n o)

-- the same bit, the same answer
pub is_set_same : (xs ys : List ℕ) (o p : ℕ) → bit xs o ≡ bit ys p → is_set xs o ≡ is_set ys p
unfolding is_set
is_set_same xs ys o p e = ap (λ (d : ℕ). eqb d 1) e

pub is_set_with : (ws : List ℕ) (o j : ℕ) → o < 64 * length ws → is_set (with_bit ws o) j ≡ (eqb j o || is_set ws j)
unfolding is_set
is_set_with ws o j l = grind (arith, nat_tests, bit_with_same ws o, bit_with_other ws o j)

pub is_set_or : (xs ys : List ℕ) (o : ℕ) → o < 64 * length xs → is_set (or_words xs ys) o ≡ (is_set xs o || is_set ys o)
unfolding is_set
is_set_or xs ys o l = grind (arith, nat_tests, bit_or_law xs ys o l, bit_lt xs o, bit_lt ys o)

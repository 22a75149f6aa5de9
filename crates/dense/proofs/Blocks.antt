-- Blocks of eight words: a count is what stands before its block and what stands within. Assumes nothing.
use mathlib.Core.Path.{◌≡◌, sym, ap, ◌∙◌}
use mathlib.Core.List.{List}
use Prim.Native.Nat.{ℕ, zero, suc, ◌+◌, ◌*◌, ◌/◌, ◌%◌, ◌≤◌}
use native.Mathlib.Omega.{arith}
use lib.ListN.{take, drop}
use Rattle.sums.specs.Sums.{sum_to}
use Rattle.sums.proofs.Sums.{sum_zero, sum_suc}
use Rattle.dense.specs.Bits.{bits_to}
use Rattle.dense.proofs.Counts.{bits_zero}
use Rattle.dense.proofs.Parts.{bits_part}

module _ (ws : List ℕ) where
  -- m bits of block j
  pub bits_in_block : (j m : ℕ) → m ≤ 512 → bits_to ws (512 * j + m) ≡ bits_to ws (512 * j) + bits_to (take 8 (drop (8 * j) ws)) m
  bits_in_block j m l =
      let e : 512 * j + m ≡ 64 * (8 * j) + m = omega arith in
      let f : 512 * j ≡ 64 * (8 * j) = omega arith in
      omega (arith, ap (bits_to ws) e, ap (bits_to ws) f, bits_part (8 * j) 8 ws m (omega arith))

  -- the rank of an offset: before its block, and within
  pub bits_rank : (o : ℕ) → bits_to ws o ≡ bits_to ws (512 * (o / 512)) + bits_to (take 8 (drop (8 * (o / 512)) ws)) (o % 512)
  bits_rank o =
      let e : 512 * (o / 512) + o % 512 ≡ o = omega arith in
      sym (ap (bits_to ws) e) ∙ bits_in_block (o / 512) (o % 512) (omega arith)

  -- the block counts add up to the count at each multiple of 512
  pub bits_blocks : (n : ℕ) → bits_to ws (512 * n) ≡ sum_to (λ (j : ℕ). bits_to (take 8 (drop (8 * j) ws)) 512) n
  bits_blocks zero = bits_zero ws ∙ sym (sum_zero (λ (j : ℕ). bits_to (take 8 (drop (8 * j) ws)) 512))
  bits_blocks (suc n) =
      let e : 512 * suc n ≡ 512 * n + 512 = omega arith in
      omega (arith, ap (bits_to ws) e, bits_in_block n 512 (omega arith), bits_blocks n, sum_suc (λ (j : ℕ). bits_to (take 8 (drop (8 * j) ws)) 512) n)

-- A part of a pool of words, from its middle: its bits and counts are the pool's. Assumes nothing.
use mathlib.Core.Path.{◌≡◌, sym, ap, ap₂, ◌∙◌}
use mathlib.Core.List.{List}
use Prim.Native.Nat.{ℕ, ◌+◌, ◌*◌, ◌/◌, ◌%◌, ◌≤◌, ◌<◌}
use native.Mathlib.Omega.{arith}
use lib.ListN.{get_or, take, drop}
use lib.Seq.{get_or-take, get_or-drop}
use Rattle.sums.specs.Sums.{sum_to}
use Rattle.sums.proofs.Sums.{sum_ext}
use Rattle.dense.specs.Bits.{digit, bit, bits_to}
use Rattle.dense.proofs.Counts.{bits_split}

-- the part of k words from word a on
module _ (a k : ℕ) (ws : List ℕ) where
  pub word_part : (i : ℕ) → i < k → get_or (take k (drop a ws)) i 0 ≡ get_or ws (a + i) 0
  word_part i l = get_or-take k (drop a ws) i 0 l ∙ get_or-drop a ws i 0

  pub bit_part : (o : ℕ) → o < 64 * k → bit (take k (drop a ws)) o ≡ bit ws (64 * a + o)
  unfolding bit
  bit_part o l =
      let p : (64 * a + o) / 64 ≡ a + o / 64 = omega arith in
      let q : (64 * a + o) % 64 ≡ o % 64 = omega arith in
      ap (λ (w : ℕ). digit w (o % 64)) (word_part (o / 64) (omega arith)) ∙ sym (ap₂ (λ (x y : ℕ). digit (get_or ws x 0) y) p q)

  inner : (n : ℕ) → n ≤ 64 * k → sum_to (λ (j : ℕ). bit ws (64 * a + j)) n ≡ bits_to (take k (drop a ws)) n
  unfolding bits_to
  inner n l = sum_ext (λ (j : ℕ). bit ws (64 * a + j)) (bit (take k (drop a ws))) n (λ j h. sym (bit_part j (omega arith)))

  -- below n in the part: those below 64 a + n in the pool, without those below 64 a
  pub bits_part : (n : ℕ) → n ≤ 64 * k → bits_to ws (64 * a + n) ≡ bits_to ws (64 * a) + bits_to (take k (drop a ws)) n
  bits_part n l = bits_split ws (64 * a) n ∙ ap (λ (x : ℕ). bits_to ws (64 * a) + x) (inner n l)

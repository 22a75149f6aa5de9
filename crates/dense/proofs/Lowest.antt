-- A word without its lowest set digit, and without its low digits, as the machine makes them. Assumes nothing.
use mathlib.Core.Path.{◌≡◌, sym, ap, ◌∙◌}
use Prim.Native.Nat.{ℕ, ◌+◌, ◌-◌, ◌*◌, ◌/◌, ◌%◌, ◌^◌, ◌<◌}
use native.Mathlib.Nat.{zero-div, mod-lt, mul-mod_left, mod-eq_of_lt, lt_of_le_of_lt}
use native.Mathlib.Omega.{arith}
use lib.Arith.{mul_pred}
use lib.Bits.{bit_and}
use lib.Count.{count_trailing_zeros}
use lib.Pow.{pow_pos, split, high, ones_lt, shl-shr}
use mir.Syntax.{w64}
use Rattle.std.proofs.lemmas.Nat.Bits.{bit_at_and, bit_at-zero, bit_at-trailing_zeros, same_from_bits_below}
use Rattle.dense.specs.Bits.{digit}
use Rattle.dense.proofs.Digits.{digit_shr, digit_mod}

-- a multiple of 2^n has no digit below n
digit_under : (w n j : ℕ) → w % 2 ^ n ≡ 0 → j < n → digit w j ≡ 0
digit_under w n j e l = sym (digit_mod w n j l) ∙ (ap (λ (x : ℕ). digit x j) e ∙ ap (λ (x : ℕ). x % 2) (zero-div (2 ^ j)))

-- ---- without its lowest set digit

module _ (w : ℕ) (some : 0 < w) (fits : w < 2 ^ 64) where
  lowest : (count_trailing_zeros 64 w < 64) × (digit w (count_trailing_zeros 64 w) ≡ 1) × ((j : ℕ) → j < count_trailing_zeros 64 w → digit w j ≡ 0)
  lowest = bit_at-trailing_zeros w64 w some fits

  pub lowest_lt : count_trailing_zeros 64 w < 64
  lowest_lt = lowest.0

  pub lowest_one : digit w (count_trailing_zeros 64 w) ≡ 1
  lowest_one = lowest.1

  pub lowest_none : (j : ℕ) → j < count_trailing_zeros 64 w → digit w j ≡ 0
  lowest_none = lowest.2

  nothing_below : w % 2 ^ count_trailing_zeros 64 w ≡ 0
  nothing_below =
      let t = count_trailing_zeros 64 w in
      same_from_bits_below t (w % 2 ^ t) 0 (mod-lt w (pow_pos t)) (pow_pos t) (λ i l. digit_mod w t i l ∙ lowest_none i l ∙ sym (bit_at-zero i))

  -- one less above the lowest set digit
  less : (w - 1) / 2 ^ count_trailing_zeros 64 w ≡ w / 2 ^ count_trailing_zeros 64 w - 1
  less =
      let t = count_trailing_zeros 64 w in
      let q = w / 2 ^ t in
      let o : q % 2 ≡ 1 = lowest_one in
      let z = nothing_below in
      let e : w ≡ q * 2 ^ t = omega (arith, split w t) in
      ap (λ (x : ℕ). (x - 1) / 2 ^ t) e ∙ (ap (λ (x : ℕ). x / 2 ^ t) (mul_pred (omega arith) (pow_pos t)) ∙ high (q - 1) t (ones_lt t))

  pub cleared_low : (j : ℕ) → j < count_trailing_zeros 64 w → digit (bit_and w (w - 1)) j ≡ 0
  cleared_low j l = omega (arith, bit_at_and w (w - 1) j, lowest_none j l)

  pub cleared_here : digit (bit_and w (w - 1)) (count_trailing_zeros 64 w) ≡ 0
  cleared_here =
      let t = count_trailing_zeros 64 w in
      let o : w / 2 ^ t % 2 ≡ 1 = lowest_one in
      let e : digit (w - 1) t ≡ (w / 2 ^ t - 1) % 2 = ap (λ (x : ℕ). x % 2) less in
      omega (arith, bit_at_and w (w - 1) t)

  pub cleared_high : (d : ℕ) → digit (bit_and w (w - 1)) (count_trailing_zeros 64 w + (1 + d)) ≡ digit w (count_trailing_zeros 64 w + (1 + d))
  cleared_high d =
      let t = count_trailing_zeros 64 w in
      let q = w / 2 ^ t in
      let o : q % 2 ≡ 1 = lowest_one in
      let h : (q - 1) / 2 ≡ q / 2 = omega arith in
      let e : digit (w - 1) (t + (1 + d)) ≡ digit w (t + (1 + d)) =
      sym (digit_shr (w - 1) t (1 + d)) ∙ (ap (λ (x : ℕ). digit x (1 + d)) less ∙ (sym (digit_shr (q - 1) 1 d)
      ∙ (ap (λ (x : ℕ). digit x d) h ∙ (digit_shr q 1 d ∙ digit_shr w t (1 + d))))) in
      omega (arith, bit_at_and w (w - 1) (t + (1 + d)))

-- ---- without its low n digits

module _ (w n : ℕ) (fits : w < 2 ^ 64) where
  kept_is : w / 2 ^ n * 2 ^ n % 2 ^ 64 ≡ w / 2 ^ n * 2 ^ n
  kept_is = mod-eq_of_lt (lt_of_le_of_lt (omega (arith, split w n)) fits)

  pub kept_low : (j : ℕ) → j < n → digit (w / 2 ^ n * 2 ^ n % 2 ^ 64) j ≡ 0
  kept_low j l = ap (λ (x : ℕ). digit x j) kept_is ∙ digit_under (w / 2 ^ n * 2 ^ n) n j (mul-mod_left (w / 2 ^ n) (2 ^ n)) l

  pub kept_high : (d : ℕ) → digit (w / 2 ^ n * 2 ^ n % 2 ^ 64) (n + d) ≡ digit w (n + d)
  kept_high d =
      ap (λ (x : ℕ). digit x (n + d)) kept_is
      ∙ (sym (digit_shr (w / 2 ^ n * 2 ^ n) n d) ∙ (ap (λ (x : ℕ). digit x d) (shl-shr (w / 2 ^ n) n) ∙ digit_shr w n d))

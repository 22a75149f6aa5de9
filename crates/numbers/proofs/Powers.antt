-- Laws of 2 ^ k as sizes use it: shifts and products that fit, and what a chunk of 2 ^ s ids has. Assumes nothing.
use mathlib.Core.Path.{◌≡◌, sym, ◌∙◌, ap}
use Prim.Native.Nat.{ℕ, ◌-◌, ◌*◌, ◌/◌, ◌^◌, ◌≤◌, ◌<◌}
use native.Mathlib.Nat.{mul-le-mul}
use native.Mathlib.Omega.{arith}
use lib.Pow.{pow_pos, pow_mono, pow-add}

-- ---- shifts and products that fit

-- a slot number, shifted: small enough to add places to
pub scaled_most : (x k : ℕ) → x ≤ 65536 → k < 32 → x * 2 ^ k ≤ 2 ^ 47
scaled_most x k h l = mul-le-mul h (pow_mono {j = 31} (omega arith))

-- two sizes
pub times_most : (x y : ℕ) → x ≤ 262144 → y ≤ 262144 → x * y ≤ 2 ^ 36
times_most x y h l = mul-le-mul h l

-- ---- parts of a chunk

-- 2 ^ s in parts of 2 ^ k
pub pow_drop : (k s : ℕ) → k ≤ s → 2 ^ (s - k) * 2 ^ k ≡ 2 ^ s
pow_drop k s h = sym (pow-add 2 (s - k) k) ∙ ap (λ (n : ℕ). 2 ^ n) (omega arith)

-- what is asked of 2 ^ s for a size s that is allowed: ids, words and blocks of a chunk
pub record Powers (s : ℕ) : Type 0 where
  pub words : 2 ^ (s - 6) * 64 ≡ 2 ^ s
  pub blocks : 2 ^ (s - 9) * 512 ≡ 2 ^ s
  pub block_words : 2 ^ (s - 9) * 8 ≡ 2 ^ (s - 6)
  pub least : 512 ≤ 2 ^ s
  pub most : 2 ^ s ≤ 33554432
  pub some_words : 8 ≤ 2 ^ (s - 6)
  pub most_words : 2 ^ (s - 6) ≤ 524288
  pub some_blocks : 1 ≤ 2 ^ (s - 9)
  pub most_blocks : 2 ^ (s - 9) ≤ 65536

pub powers : (s : ℕ) → 9 ≤ s → s ≤ 25 → Powers s
powers s l h =
    let w : 2 ^ (s - 6) * 64 ≡ 2 ^ s = pow_drop 6 s (omega arith) in
    let b : 2 ^ (s - 9) * 512 ≡ 2 ^ s = pow_drop 9 s l in
    let n : 1 ≤ 2 ^ (s - 9) = pow_pos (s - 9) in
    let m : 2 ^ s ≤ 2 ^ 25 = pow_mono h in
    record {
      words = w;
      blocks = b;
      block_words = omega arith;
      least = omega arith;
      most = omega arith;
      some_words = omega arith;
      most_words = omega arith;
      some_blocks = n;
      most_blocks = omega arith;
    }

-- the word and the block of an offset are the chunk's
module _ (s off : ℕ) (l : 9 ≤ s) (h : s ≤ 25) (o : off < 2 ^ s) where
  pub word_below : off / 64 < 2 ^ (s - 6)
  word_below = omega (arith, powers s l h)

  pub block_below : off / 512 < 2 ^ (s - 9)
  block_below = omega (arith, powers s l h)

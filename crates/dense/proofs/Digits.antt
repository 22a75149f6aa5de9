-- Binary digits of a number: of a field cut out by shift and mask; their sum is `ones`. What std says of digits it says of `bit_at`, which is `digit`. Assumes nothing.
use mathlib.Core.Path.{◌≡◌, refl, sym, ap, ap₂, ◌∙◌}
use Prim.Native.Nat.{ℕ, zero, suc, ◌+◌, ◌-◌, ◌*◌, ◌/◌, ◌%◌, ◌^◌, ◌<◌}
use native.Mathlib.Nat.{add_comm, add-zero, zero-mul, mod-lt, div-one, mul-mod_left, eq_of_mul-eq-mul_right}
use native.Mathlib.Numerals.{add-one}
use native.Mathlib.Omega.{arith}
use lib.Arith.{mod-mul, lt-one}
use lib.Count.{ones, ones_in, ones_step}
use lib.Pow.{pow_pos, pow-add, shl-shr, shr-shr, shr_lt, field, mod-mod-pow}
use Rattle.sums.specs.Sums.{sum_to}
use Rattle.sums.proofs.Sums.{sum_zero, sum_suc, sum_split, sum_ext}
use Rattle.dense.specs.Bits.{digit}

-- ---- one digit

pub digit_shr : (w n b : ℕ) → digit (w / 2 ^ n) b ≡ digit w (n + b)
digit_shr w n b = ap (λ (x : ℕ). x % 2) (shr-shr w n b)

pub digit_mod : (w n b : ℕ) → b < n → digit (w % 2 ^ n) b ≡ digit w b
digit_mod w n b l =
    let j = n - b - 1 in
    let e : n ≡ j + 1 + b = omega arith in
    ap (λ (x : ℕ). w % 2 ^ x / 2 ^ b % 2) e
    ∙ (ap (λ (x : ℕ). x % 2) (field w (j + 1) b) ∙ mod-mod-pow (w / 2 ^ b) j 1)

-- ---- their sum

pub ones_zero : ones 0 ≡ 0
unfolding ones ones_in
ones_zero = refl

-- what `count_ones` counts
pub ones_digits : (k w : ℕ) → w < 2 ^ k → ones w ≡ sum_to (digit w) k
ones_digits zero w h = ap ones (lt-one h) ∙ (ones_zero ∙ sym (sum_zero (digit w)))
ones_digits (suc k) w h =
    let ih = ones_digits k (w / 2) (shr_lt k 1 (rw add-one h)) in
    let e : sum_to (digit (w / 2)) k ≡ sum_to (λ (j : ℕ). digit w (1 + j)) k = sum_ext (digit (w / 2)) (λ (j : ℕ). digit w (1 + j)) k (λ j l. digit_shr w 1 j) in
    let s : sum_to (digit w) (1 + k) ≡ sum_to (digit w) 1 + sum_to (λ (j : ℕ). digit w (1 + j)) k = sum_split (digit w) 1 k in
    let f : sum_to (digit w) 1 ≡ sum_to (digit w) 0 + w / 1 % 2 = sum_suc (digit w) 0 in
    let g : w / 1 % 2 ≡ w % 2 = ap (λ (x : ℕ). x % 2) (div-one w) in
    let t : sum_to (digit w) (1 + k) ≡ sum_to (digit w) (suc k) = ap (sum_to (digit w)) (add_comm 1 k ∙ add-one k) in
    omega (arith, ones_step w, sum_zero (digit w))

-- the digits from l on, m of them
pub ones_field : (w l m : ℕ) → sum_to (digit w) (l + m) ≡ sum_to (digit w) l + ones (w / 2 ^ l % 2 ^ m)
ones_field w l m =
    let f = w / 2 ^ l % 2 ^ m in
    let e : ones f ≡ sum_to (digit f) m = ones_digits m f (mod-lt (w / 2 ^ l) (pow_pos m)) in
    let g : sum_to (digit f) m ≡ sum_to (λ (j : ℕ). digit w (l + j)) m = sum_ext (digit f) (λ (j : ℕ). digit w (l + j)) m (λ j h. digit_mod (w / 2 ^ l) m j h ∙ digit_shr w l j) in
    omega (arith, sum_split (digit w) l m)

-- ---- shifts as the machine has them

-- k digits pushed out at the top leave those of the low m
pub shl_low : (x m k : ℕ) → x * 2 ^ k % 2 ^ (m + k) ≡ x % 2 ^ m * 2 ^ k
shl_low x m k =
    ap (λ (y : ℕ). x * 2 ^ k % y) (pow-add 2 m k)
    ∙ (mod-mul (x * 2 ^ k) (pow_pos m) (pow_pos k)
    ∙ (ap₂ (λ (y z : ℕ). y % 2 ^ m * 2 ^ k + z) (shl-shr x k) (mul-mod_left x (2 ^ k)) ∙ add-zero (x % 2 ^ m * 2 ^ k)))

pub shl_none : (x m k : ℕ) → x * 2 ^ k % 2 ^ (m + k) ≡ 0 → x % 2 ^ m ≡ 0
shl_none x m k e =
    let f : x % 2 ^ m * 2 ^ k ≡ 0 = sym (shl_low x m k) ∙ e in
    eq_of_mul-eq-mul_right (2 ^ k) (pow_pos k) (x % 2 ^ m) 0 (f ∙ sym (zero-mul (2 ^ k)))

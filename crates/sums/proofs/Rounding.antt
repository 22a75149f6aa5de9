-- How many parts: enough for all members, none to spare, and no fewer would do. Assumes nothing.
use Prim.Native.Nat.{ℕ, suc, ◌+◌, ◌-◌, ◌*◌, ◌/◌, ◌≤◌, ◌<◌}
use native.Mathlib.Nat.{le-div_iff_mul-le, div-lt_iff_lt-mul, suc-mul, mul-le-mul_right}
use native.Mathlib.Omega.{arith}
use Rattle.sums.specs.Cuts.{size, parts}

-- ---- the quotient rounded up, for a divisor s of 1 or more

round_enough : (t s : ℕ) → 0 < s → t ≤ (t + (s - 1)) / s * s
round_enough t s p =
    let q = (t + (s - 1)) / s in
    let l : t + (s - 1) < suc q * s = (div-lt_iff_lt-mul p).0 (omega arith) in
    omega (arith, suc-mul q s)

round_tight : (t s k : ℕ) → 0 < s → k < (t + (s - 1)) / s → k * s < t
round_tight t s k p l =
    let h : suc k * s ≤ t + (s - 1) = (le-div_iff_mul-le p).0 l in
    omega (arith, suc-mul k s)

round_least : (t s m : ℕ) → 0 < s → t ≤ m * s → (t + (s - 1)) / s ≤ m
round_least t s m p l =
    let h : (t + (s - 1)) / s < suc m = (div-lt_iff_lt-mul p).1 (omega (arith, suc-mul m s)) in
    omega arith

-- ---- the number of parts

pub size_pos : (S : ℕ) → 0 < size S
size_pos S = omega arith

pub parts_pos : (t S : ℕ) → 0 < parts t S
parts_pos t S = omega arith

pub parts_enough : (t S : ℕ) → t ≤ parts t S * size S
parts_enough t S =
    let q = (t + (size S - 1)) / size S in
    let m : q * size S ≤ parts t S * size S = mul-le-mul_right (size S) (omega arith) in
    omega (arith, round_enough t (size S) (size_pos S))

-- every part but the first starts below the total
pub parts_tight : (t S k : ℕ) → 0 < k → k < parts t S → k * size S < t
parts_tight t S k p l = round_tight t (size S) k (size_pos S) (omega arith)

pub parts_least : (t S m : ℕ) → 0 < m → t ≤ m * size S → parts t S ≤ m
parts_least t S m p l = let h = round_least t (size S) m (size_pos S) l in omega arith

-- The plan: the least id with a given rank, the number of parts, each part's interval, and cuttings to compare with.
use Rattle.std.specs.Prelude.{◌≡◌, Bool, true, cond, ◌&&◌, List, [], ◌∷◌, ◌++◌, ℕ, zero, suc, ◌+◌, ◌-◌, ◌*◌, ◌/◌, ◌^◌, ◌≤◌, ◌<◌, max, leb, ℤ, pos, negsuc}
use Rattle.std.specs.Int.Signed.{le_z, lt_z}
use Rattle.std.specs.Int.{w64}
use Rattle.std.proofs.Common.{SFits}
use Rattle.sums.specs.Ids.{Ids, count, total}

-- x is the least id of 0 or more with at least m members below it
pub record Least (P : Ids) (m x : ℕ) : Type 0 where
  pub enough : m ≤ count P x
  pub first : (y : ℕ) → m ≤ count P y → x ≤ y

-- that id, looked for from n down
unfoldable pub least_to : Ids → ℕ → ℕ → ℕ
least_to P m zero = 0
least_to P m (suc n) = cond (leb m (count P n)) (least_to P m n) (suc n)

unfoldable pub least : Ids → ℕ → ℕ
least P m = least_to P m (2 ^ 63)

-- S of 0 is read as 1
abbrev pub size : ℕ → ℕ
size S = max 1 S

-- the quotient t / S rounded up, at least 1
abbrev pub parts : ℕ → ℕ → ℕ
parts t S = max 1 ((t + (size S - 1)) / size S)

-- an interval of ids: its low end, and its high end, excluded, or none
pub data End : Type 0 where
  before : ℤ → End
  none : End

pub record Interval : Type 0 where
  pub low : ℤ
  pub high : End

abbrev pub under : ℤ → End → Bool
under z (before h) = lt_z z h
under z none = true

abbrev pub inside : ℤ → Interval → Bool
inside z i = le_z i.low z && under z i.high

-- members of P in an interval
unfoldable pub held : Ids → Interval → ℕ
held P i = count (λ (n : ℕ). P n && inside (pos n) i) (2 ^ 63)

-- boundary k, for k from 1
abbrev pub boundary : Ids → ℕ → ℕ → ℕ
boundary P S k = least P (k * size S)

-- boundaries 1 to k, and all that a plan has: one fewer than the parts
unfoldable pub boundaries_to : Ids → ℕ → ℕ → List ℕ
boundaries_to P S zero = []
boundaries_to P S (suc k) = boundaries_to P S k ++ (boundary P S (suc k) ∷ [])

abbrev pub boundaries : Ids → ℕ → List ℕ
boundaries P S = boundaries_to P S (parts (total P) S - 1)

-- part k of the n that a set has: from boundary k, or the smallest i64, up to boundary k + 1, or without end
unfoldable pub low_end : Ids → ℕ → ℕ → ℤ
low_end P S zero = negsuc (2 ^ 63 - 1)
low_end P S (suc k) = pos (boundary P S (suc k))

unfoldable pub high_end : Ids → ℕ → ℕ → End
high_end P S k = cond (leb (parts (total P) S) (suc k)) none (before (pos (boundary P S (suc k))))

abbrev pub part : Ids → ℕ → ℕ → Interval
part P S k = record { low = low_end P S k; high = high_end P S k }

-- n intervals, overlapping or not, that cover the i64 line with at most S members in each
pub record Cutting (P : Ids) (S n : ℕ) (cut : ℕ → Interval) : Type 0 where
  pub covers : (z : ℤ) → SFits w64 z → (k : ℕ) × (k < n) × (inside z (cut k) ≡ true)
  pub small : (k : ℕ) → k < n → held P (cut k) ≤ size S

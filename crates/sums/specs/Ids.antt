-- Plain sets of ids, and ranks in them.
use Rattle.std.specs.Prelude.{Bool, false, cond, ℕ, ◌^◌, ltb, ℤ, pos, negsuc}
use Rattle.std.proofs.Math.IntN.{suc_ℤ}
use mir.Val.{bool_byte}
use Rattle.sums.specs.Sums.{sum_to}

-- a plain set of ids of 0 or more
abbrev pub Ids : Type 0
Ids = ℕ → Bool

-- a negative id is never a member
abbrev pub has : Ids → ℤ → Bool
has P (pos n) = P n
has P (negsuc n) = false

-- members below n
unfoldable pub count : Ids → ℕ → ℕ
count P n = sum_to (λ (j : ℕ). bool_byte (P j)) n

-- all members: ids end at 2^63 - 1
unfoldable pub total : Ids → ℕ
total P = count P (2 ^ 63)

-- members strictly below x, 0 for x ≤ 0
unfoldable pub rank : Ids → ℤ → ℕ
rank P (pos n) = count P n
rank P (negsuc n) = 0

-- what `rank_if_set` answers
pub data RankIf : Type 0 where
  ranked : ℕ → RankIf
  none : RankIf

unfoldable pub rank_if : Ids → ℤ → RankIf
rank_if P x = cond (has P x) (ranked (rank P x)) none

-- whether a member lies in lo to hi, both included: more members below hi + 1 than below lo
unfoldable pub any_in_range : Ids → ℤ → ℤ → Bool
any_in_range P lo hi = ltb (rank P lo) (rank P (suc_ℤ hi))

-- Demand 3: what a plan of n intervals for parts of at most S members has to be.
use Rattle.std.specs.Prelude.{◌≡◌, true, ℕ, ◌+◌, ◌-◌, ◌*◌, ◌≤◌, ◌<◌, min, ℤ}
use Rattle.std.specs.Int.{w64}
use Rattle.std.proofs.Common.{SFits}
use Rattle.sums.specs.Rules.{Decides}
use Rattle.sums.specs.Ids.{Ids, has, total, rank}
use Rattle.sums.specs.Cuts.{size, Interval, inside, held, Cutting}

pub record Planned (P : Ids) (S n : ℕ) (cut : ℕ → Interval) : Type 0 where
  -- its intervals cover every i64 once
  pub covers : (z : ℤ) → SFits w64 z → (k : ℕ) × (k < n) × (inside z (cut k) ≡ true) × ((j : ℕ) → j < n → inside z (cut j) ≡ true → j ≡ k)
  -- interval k holds exactly the members ranked from kS up to (k + 1)S
  pub members : (z : ℤ) → SFits w64 z → has P z ≡ true → (k : ℕ) → k < n → Decides (inside z (cut k)) ((k * size S ≤ rank P z) × (rank P z < (k + 1) * size S))
  pub counts : (k : ℕ) → k < n → held P (cut k) ≡ min (size S) (total P - k * size S)
  -- no cutting into intervals of at most S members has fewer, and this is one
  pub fewest : (m : ℕ) (other : ℕ → Interval) → Cutting P S m other → n ≤ m
  pub cutting : Cutting P S n cut

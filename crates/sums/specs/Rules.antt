-- A rule over a range, and what it is for a test to decide a statement.
use Rattle.std.specs.Prelude.{◌≡◌, Bool, true, ◌&&◌, ℕ, zero, suc}

-- f 0, .., f (n - 1) all say yes
unfoldable pub all_to : (ℕ → Bool) → ℕ → Bool
all_to f zero = true
all_to f (suc n) = all_to f n && f n

-- b is yes exactly when P holds
pub record Decides (b : Bool) (P : Type 0) : Type 0 where
  pub sound : b ≡ true → P
  pub whole : P → b ≡ true

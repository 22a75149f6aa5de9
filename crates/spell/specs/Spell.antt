-- Numbers as text, and text behind text in a buffer.
use Rattle.std.specs.Prelude.{◌≡◌, cond, List, [], ◌∷◌, ◌++◌, ℕ, zero, suc, ◌+◌, ◌/◌, ◌%◌, ◌≤◌, ltb, length, take}

-- the last digit stands behind the others, and there is no zero in front of them; at most k digits
unfoldable pub decimal_in : ℕ → ℕ → List ℕ
decimal_in zero n = []
decimal_in (suc k) n = cond (ltb n 10) ((48 + n) ∷ []) (decimal_in k (n / 10) ++ ((48 + n % 10) ∷ []))

-- a u64 has at most 20
unfoldable pub decimal : ℕ → List ℕ
decimal n = decimal_in 20 n

-- t, of at most so many bytes, stands from `at` to before `end`, and what stood before `at` stands there still
pub record Appends (most : ℕ) (old new : List ℕ) (at end : ℕ) (t : List ℕ) : Type 0 where
  pub short : length t ≤ most
  pub ends : end ≡ at + length t
  pub says : take end new ≡ take at old ++ t

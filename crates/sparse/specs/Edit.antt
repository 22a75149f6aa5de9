-- What a row's list holds after an insert, a clearing, a copy.
use Rattle.std.specs.Prelude.{List, ◌∷◌, ◌++◌, ℕ, ◌+◌, ◌-◌, take, drop, replicate}

-- x put in at a place, what stood from there up to len moved up by one, the elements beyond as they were
unfoldable pub inserted_at : List ℕ → ℕ → ℕ → ℕ → List ℕ
inserted_at row len at x = take at row ++ (x ∷ take (len - at) (drop at row)) ++ drop (len + 1) row

-- a freed row is filled with zeros
unfoldable pub cleared : List ℕ → ℕ → List ℕ
cleared row len = replicate len 0 ++ drop len row

-- the first len offsets of src over those of dst
unfoldable pub copied : List ℕ → List ℕ → ℕ → List ℕ
copied src dst len = take len src ++ drop len dst

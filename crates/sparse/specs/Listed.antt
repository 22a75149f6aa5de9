-- A row's offsets in order, from the first that is not below a bound on.
use Rattle.std.specs.Prelude.{List, [], ◌∷◌, ℕ, zero, suc, ◌-◌, ◌%◌, get_or}
use Rattle.sparse.specs.Search.{lower_of}

-- the n offsets from place i on, each taken mod the chunk's size u, so that no row leads outside its chunk
unfoldable pub offsets_at : List ℕ → ℕ → ℕ → ℕ → List ℕ
offsets_at row u i zero = []
offsets_at row u i (suc n) = get_or row i 0 % u ∷ offsets_at row u (suc i) n

-- those of the first len that are not below x
unfoldable pub offsets_from : List ℕ → ℕ → ℕ → ℕ → List ℕ
offsets_from row len u x = offsets_at row u (lower_of row len x) (len - lower_of row len x)

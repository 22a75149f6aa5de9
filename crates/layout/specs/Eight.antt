-- Eight direct entries looked at at once. Most entries are absent, and runs of them are passed over.
use Rattle.std.specs.Prelude.{ℕ, ◌+◌, ◌*◌, ◌%◌, List, Bool, ◌&&◌, get_or, leb, eqb}
use Rattle.sums.specs.Rules.{all_to}
use Rattle.layout.specs.Sizes.{direct_at}

-- the words at a, a + 2, .., a + 14 are all v
abbrev pub eight_are : List ℕ → ℕ → ℕ → Bool
eight_are t a v = all_to (λ (i : ℕ). eqb (get_or t (a + 2 * i) 0) v) 8

-- of d direct entries, those from e to e + 7 are there and absent; asked at every eighth one alone
unfoldable pub eight_absent : List ℕ → ℕ → ℕ → Bool
eight_absent t d e = eqb (e % 8) 0 && leb (e + 8) d && eight_are t (direct_at e) 0

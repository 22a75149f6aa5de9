-- A sparse row: offsets in places 0 to len - 1, its members, its count below a bound.
use Rattle.std.specs.Prelude.{List, ℕ, ◌<◌, ltb, eqb, get_or}
use Rattle.sums.specs.Ids.{Ids, count}

-- the offset at each place
abbrev pub Row : Type 0
Row = ℕ → ℕ

-- the row in a list of offsets
abbrev pub row_of : List ℕ → Row
row_of xs = λ (j : ℕ). get_or xs j 0

-- the plain set of the first len offsets
unfoldable pub member : Row → ℕ → Ids
member f len x = ltb 0 (count (λ (j : ℕ). eqb (f j) x) len)

-- how many of the first len offsets are below x
unfoldable pub below_of : Row → ℕ → ℕ → ℕ
below_of f len x = count (λ (j : ℕ). ltb (f j) x) len

-- the first len offsets strictly rise
abbrev pub Rising : Row → ℕ → Type 0
Rising f len = (i j : ℕ) → i < j → j < len → f i < f j

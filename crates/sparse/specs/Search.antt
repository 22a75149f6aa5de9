-- Where an offset stands in a row, or would stand: binary search, defined on any content.
use Rattle.std.specs.Prelude.{Bool, true, false, cond, ◌&&◌, ◌||◌, List, ℕ, zero, suc, ◌+◌, ◌-◌, ◌/◌, ltb, leb, eqb, get_or, Result, Ok, Err}
use mir.Val.{bool_byte}

-- halving the n places from lo on, turns times at most: the place of the first offset that is not below x
unfoldable pub lower_in : ℕ → List ℕ → ℕ → ℕ → ℕ → ℕ
lower_in zero row x lo n = lo + bool_byte (ltb (get_or row lo 0) x)
lower_in (suc turns) row x lo n =
    cond (ltb 1 n)
    (lower_in turns row x (cond (ltb (get_or row (lo + n / 2) 0) x) (lo + n / 2) lo) (n - n / 2))
    (lo + bool_byte (ltb (get_or row lo 0) x))

-- `partition_point`: of rising offsets, how many are below x
unfoldable pub lower_of : List ℕ → ℕ → ℕ → ℕ
lower_of row len x = cond (eqb len 0) 0 (lower_in len row x 0 len)

abbrev pub place_if : Bool → ℕ → Result ℕ ℕ
place_if true i = Ok i
place_if false i = Err i

-- whether x stands at that place
unfoldable pub found_in : List ℕ → ℕ → ℕ → Bool
found_in row len x = ltb (lower_of row len x) len && eqb (get_or row (lower_of row len x) 0) x

-- `binary_search`
unfoldable pub search_in : List ℕ → ℕ → ℕ → Result ℕ ℕ
search_in row len x = place_if (found_in row len x) (lower_of row len x)

-- an offset above the last is appended, without a search
unfoldable pub spot_in : List ℕ → ℕ → ℕ → Result ℕ ℕ
spot_in row len x = cond (eqb len 0 || ltb (get_or row (len - 1) 0) x) (Err len) (search_in row len x)

-- whether an offset lies in lo to hi, both included
unfoldable pub any_in : List ℕ → ℕ → ℕ → ℕ → Bool
any_in row len lo hi = ltb (lower_of row len lo) len && leb (get_or row (lower_of row len lo) 0) hi

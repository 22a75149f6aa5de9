-- What a line of the program's input says, from its bytes alone: S on the first line, an id on every other.
use Rattle.std.specs.Prelude.{Bool, true, cond, ◌&&◌, List, [], ◌∷◌, ℕ, ◌+◌, ◌-◌, ◌*◌, ◌^◌, leb, ltb, eqb, ℤ, pos, neg_ℤ, length, Option, Some, None}

-- ---- digits and their number

abbrev pub is_digit : ℕ → Bool
is_digit b = leb 48 b && leb b 57

unfoldable pub all_digits : List ℕ → Bool
all_digits [] = true
all_digits (b ∷ bs) = is_digit b && all_digits bs

-- the number that digits write after those of v
unfoldable pub value_from : ℕ → List ℕ → ℕ
value_from v [] = v
value_from v (b ∷ bs) = value_from (v * 10 + (b - 48)) bs

abbrev pub value : List ℕ → ℕ
value bs = value_from 0 bs

-- ---- the two kinds of line

-- S: 1 to 20 digits, below 2 ^ 64
unfoldable pub size_line : List ℕ → Option ℕ
size_line bs =
    cond (all_digits bs && (leb 1 (length bs) && (leb (length bs) 20 && ltb (value bs) (2 ^ 64))))
    (Some (value bs))
    None

-- 1 to 19 digits, below 2 ^ 63
unfoldable pub positive : List ℕ → Option ℤ
positive bs =
    cond (all_digits bs && (leb 1 (length bs) && (leb (length bs) 19 && ltb (value bs) (2 ^ 63))))
    (Some (pos (value bs)))
    None

-- 1 to 19 digits after a minus, at most 2 ^ 63; -0 is 0
unfoldable pub negative : List ℕ → Option ℤ
negative bs =
    cond (all_digits bs && (leb 1 (length bs) && (leb (length bs) 19 && leb (value bs) (2 ^ 63))))
    (Some (neg_ℤ (pos (value bs))))
    None

-- an id: an optional minus, then its digits
unfoldable pub id_line : List ℕ → Option ℤ
id_line [] = None
id_line (b ∷ bs) = cond (eqb b 45) (negative bs) (positive (b ∷ bs))

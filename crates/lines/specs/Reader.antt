-- What the reader keeps of a line, a function of the bytes so far, and what is read off it at the end.
use Rattle.std.specs.Prelude.{Bool, true, false, cond, ◌&&◌, List, [], ◌∷◌, ℕ, ◌+◌, ◌-◌, ◌*◌, ◌^◌, leb, ltb, eqb, ℤ, pos, neg_ℤ, Option, Some, None}
use Rattle.lines.specs.Line.{is_digit}
use Rattle.lines.specs.declared.Line.{Line}
use Rattle.lines.specs.declared.Line.TheVariants.{Empty, Digits, Bad}

-- one more digit, while there are at most 20 and their number is below 2 ^ 64
unfoldable pub digit_on : Bool → ℕ → ℕ → ℕ → Line
digit_on m n v b =
    cond (is_digit b && (ltb n 20 && ltb (v * 10 + (b - 48)) (2 ^ 64)))
    (Digits m (n + 1) (v * 10 + (b - 48)))
    Bad

-- one more byte
unfoldable pub next : Line → ℕ → Line
next Empty b = cond (eqb b 45) (Digits true 0 0) (digit_on false 0 0 b)
next (Digits m n v) b = digit_on m n v b
next Bad b = Bad

unfoldable pub read_from : Line → List ℕ → Line
read_from l [] = l
read_from l (b ∷ bs) = read_from (next l b) bs

-- what is kept of a line's bytes
unfoldable pub line_of : List ℕ → Line
line_of bs = read_from Empty bs

-- ---- at the end of a line

-- no byte at all
abbrev pub empty_in : Line → Bool
empty_in Empty = true
empty_in (Digits m n v) = false
empty_in Bad = false

-- as S: no minus
abbrev pub size_in : Line → Option ℕ
size_in Empty = None
size_in (Digits true n v) = None
size_in (Digits false n v) = Some v
size_in Bad = None

-- an i64 goes to 2 ^ 63 below 0, and not as far above it
abbrev pub within : Bool → ℕ → Bool
within true v = leb v (2 ^ 63)
within false v = ltb v (2 ^ 63)

abbrev pub signed_by : Bool → ℕ → ℤ
signed_by true v = neg_ℤ (pos v)
signed_by false v = pos v

-- as an id: 1 to 19 digits
abbrev pub id_in : Line → Option ℤ
id_in Empty = None
id_in (Digits m n v) = cond (leb 1 n && (leb n 19 && within m v)) (Some (signed_by m v)) None
id_in Bad = None

-- A bit map as words of 64 bits: its bits, their counts, and what each call leaves behind.
use Rattle.std.specs.Prelude.{Bool, List, [], ◌∷◌, ℕ, zero, suc, ◌+◌, ◌/◌, ◌%◌, ◌^◌, eqb, ltb, get_or, set}
use Rattle.std.specs.Int.Bits.{bit_or}
use Rattle.sums.specs.Sums.{sum_to}

-- binary digit b of w, 0 or 1
abbrev pub digit : ℕ → ℕ → ℕ
digit w b = w / 2 ^ b % 2

-- the bit at offset o; 0 past the last word
unfoldable pub bit : List ℕ → ℕ → ℕ
bit ws o = digit (get_or ws (o / 64) 0) (o % 64)

unfoldable pub is_set : List ℕ → ℕ → Bool
is_set ws o = eqb (bit ws o) 1

-- set bits below offset n
unfoldable pub bits_to : List ℕ → ℕ → ℕ
bits_to ws n = sum_to (bit ws) n

-- whether a set bit lies in lo to hi, both included: more of them below hi + 1 than below lo
unfoldable pub any_in : List ℕ → ℕ → ℕ → Bool
any_in ws lo hi = ltb (bits_to ws lo) (bits_to ws (hi + 1))

-- the words with the bit at o set
unfoldable pub with_bit : List ℕ → ℕ → List ℕ
with_bit ws o = set ws (o / 64) (bit_or (get_or ws (o / 64) 0) (2 ^ (o % 64)))

-- each word of the first list with the bits of the second's set too
unfoldable pub or_words : List ℕ → List ℕ → List ℕ
or_words [] ys = []
or_words (x ∷ xs) [] = x ∷ xs
or_words (x ∷ xs) (y ∷ ys) = bit_or x y ∷ or_words xs ys

-- the words with a row's first n offsets set, each taken mod the size u
unfoldable pub with_row : List ℕ → List ℕ → ℕ → ℕ → List ℕ
with_row ws row u zero = ws
with_row ws row u (suc n) = with_bit (with_row ws row u n) (get_or row n 0 % u)

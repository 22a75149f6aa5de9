-- The slots that a budget buys, and the highest id that a file's length allows.
use Rattle.std.specs.Prelude.{ℕ, ◌-◌, ◌*◌, ◌/◌, ◌^◌, min, max, ℤ, pos, negsuc}

-- the bits of b bytes, held to 2 ^ 64 - 1
abbrev pub bits_of : ℕ → ℕ
bits_of b = min (8 * b) (2 ^ 64 - 1)

-- a slot is a word and two bits; at least one slot
abbrev pub slots_for_budget : ℕ → ℕ
slots_for_budget b = max 1 (bits_of b / 66)

-- length times ids per byte, held to 2 ^ 63 - 1
abbrev pub by_size : ℕ → ℕ → ℕ
by_size len per = min (len * per) (2 ^ 63 - 1)

-- the smaller of the claim and that product; a negative claim is smaller than any
abbrev pub file_bounded_max_id : ℤ → ℕ → ℕ → ℤ
file_bounded_max_id (pos n) len per = pos (min n (by_size len per))
file_bounded_max_id (negsuc n) len per = negsuc n

-- Ids, their chunks and offsets: an id of 0 or more has chunk id n / 2 ^ s and offset n % 2 ^ s; a negative one has none.
use Rattle.std.specs.Prelude.{◌≡◌, ℕ, ◌+◌, ◌*◌, ◌/◌, ◌%◌, ◌^◌, ◌<◌, ℤ, pos, negsuc, Option, Some, None}

-- an id of 0 or more as a number; a negative id is never a member
abbrev pub natural_of : ℤ → Option ℕ
natural_of (pos n) = Some n
natural_of (negsuc n) = None

-- chunk id and offset, where a chunk has 2 ^ s ids
abbrev pub split_of : ℕ → ℤ → Option (ℕ × ℕ)
split_of s (pos n) = Some (n / 2 ^ s, n % 2 ^ s)
split_of s (negsuc n) = None

-- the chunk id alone
abbrev pub chunk_of : ℕ → ℤ → Option ℕ
chunk_of s (pos n) = Some (n / 2 ^ s)
chunk_of s (negsuc n) = None

-- the id at an offset of a chunk
abbrev pub id_of : ℕ → ℕ → ℕ → ℕ
id_of s c off = c * 2 ^ s + off

-- id z lies in chunk c at offset off
pub record Lies (s : ℕ) (z : ℤ) (c off : ℕ) : Type 0 where
  pub id : z ≡ pos (id_of s c off)
  pub within : off < 2 ^ s

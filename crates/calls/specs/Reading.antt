-- Membership and chunk ids, on any memory.
use Rattle.std.specs.Prelude.{ℕ, List, Bool, false, cond, ◌&&◌, ℤ, length, leb, Option, Some, None, Ok, Err}
use Rattle.numbers.specs.Ids.{split_of, chunk_of}
use Rattle.layout.specs.Mem.{Mem}
use Rattle.layout.specs.Sizes.{header_at, head}
use Rattle.layout.specs.Short.{word_in, spot_of}
use Rattle.layout.specs.Part.{has_in}
use Rattle.document.specs.Refusals.{not_laid_out}
use Rattle.document.specs.Results.{Perhaps, Truth}
use Rattle.layout.specs.Found.{Spotted, Word}

-- s is one of document 01's
abbrev pub shift_ok : List ℕ → Bool
shift_ok t = leb 9 (header_at t).s && leb (header_at t).s 25

-- the part of a pool that a word names
abbrev pub spot_by : Mem → ℕ → Spotted
spot_by x w = spot_of (head x) (length x.pages) (length x.rows) w

abbrev pub spot_if : Mem → Word → Spotted
spot_if x (Ok w) = spot_by x w
spot_if x (Err n) = Err n

abbrev pub has_at : Mem → ℕ → Spotted → Truth
has_at x o q = has_in x.pages x.rows o q

abbrev pub has_split : Mem → Option (ℕ × ℕ) → Truth
has_split x (Some (c, o)) = has_at x o (spot_if x (word_in x.table c))
has_split x None = Ok false

-- `get`
unfoldable pub get_by : Mem → ℤ → Truth
get_by x z = cond (shift_ok x.table) (has_split x (split_of (head x).s z)) (Err not_laid_out)

-- `chunk_of`
abbrev pub chunk_answer : (Option ℕ) → Perhaps
chunk_answer (Some c) = Ok (Some c)
chunk_answer None = Ok None

unfoldable pub chunk_of_by : Mem → ℤ → Perhaps
chunk_of_by x z = cond (shift_ok x.table) (chunk_answer (chunk_of (head x).s z)) (Err not_laid_out)

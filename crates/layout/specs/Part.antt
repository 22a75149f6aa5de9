-- A part of a pool, as a word names it: an offset of its chunk lies within it, and whether it is there.
use Rattle.std.specs.Prelude.{List, false, ℕ, ◌+◌, ◌*◌, ◌^◌, ◌≤◌, ◌<◌, take, drop, Ok, Err}
use Rattle.sparse.specs.Search.{found_in}
use Rattle.dense.specs.Bits.{is_set}
use Rattle.document.specs.Results.{Truth}
use Rattle.layout.specs.Found.{Spotted}
use Rattle.layout.specs.declared.find.Spot.TheVariants.{Nowhere, Page, Row}

-- the part lies inside its pool, pages and rows being so long, and has a place or a bit for offset o
abbrev pub Within : ℕ → ℕ → ℕ → Spotted → Type 0
Within pages rows o (Ok Nowhere) = Unit
Within pages rows o (Ok (Row a n l)) = (a + n ≤ rows) × (l ≤ n) × (o < 2 ^ 32)
Within pages rows o (Ok (Page a n)) = (a + n ≤ pages) × (o < 64 * n)
Within pages rows o (Err n) = Unit

-- whether offset o is there; 3 for a part that is not inside
abbrev pub has_in : List ℕ → List ℕ → ℕ → Spotted → Truth
has_in pages rows o (Ok Nowhere) = Ok false
has_in pages rows o (Ok (Row a n l)) = Ok (found_in (take n (drop a rows)) l o)
has_in pages rows o (Ok (Page a n)) = Ok (is_set (take n (drop a pages)) o)
has_in pages rows o (Err n) = Err n

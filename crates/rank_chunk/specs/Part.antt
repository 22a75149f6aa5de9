-- A part of a pool whose members below an offset can be counted.
use Rattle.std.specs.Prelude.{ℕ, ◌+◌, ◌*◌, ◌/◌, ◌^◌, ◌≤◌, ◌<◌, Ok, Err}
use Rattle.layout.specs.Found.{Spotted}
use Rattle.layout.specs.declared.find.Spot.TheVariants.{Nowhere, Page, Row}

-- it lies inside its pool, pages and rows being so long; a row is short, a page has the offset's block of eight words
abbrev pub HasBlock : ℕ → ℕ → ℕ → Spotted → Type 0
HasBlock pages rows o (Ok Nowhere) = Unit
HasBlock pages rows o (Ok (Row a n l)) = (a + n ≤ rows) × (l ≤ n) × (n ≤ 1024) × (o < 2 ^ 32)
HasBlock pages rows o (Ok (Page a n)) = (a + n ≤ pages) × (o / 512 * 8 + 8 ≤ n)
HasBlock pages rows o (Err n) = Unit

-- One side of a union by what judging reads of it: its sizes, its rows, and where a chunk stands.
use Rattle.std.specs.Prelude.{◌≡◌, List, true, ℕ, ◌*◌, ◌≤◌, length}
use Rattle.document.specs.Sizes.{InRange}
use Rattle.document.specs.declared.sizes.Sizes.{Sizes}
use Rattle.layout.specs.Mem.{Mem}
use Rattle.layout.specs.Sizes.{head}
use Rattle.layout.specs.declared.place.Place.{Place}
use Rattle.unions.specs.Union.{fits}

-- place q is one of the sizes', and the rows are as long as they ask
pub record Side (h : Sizes) (rows : List ℕ) (q : Place) : Type 0 where
  pub sizes : InRange h
  pub in_rows : h.r * h.m ≤ length rows
  pub inside : fits h q ≡ true

-- memory of these sizes and rows, whatever else it holds
pub record WithRows (h : Sizes) (rows : List ℕ) (x : Mem) : Type 0 where
  pub sizes : head x ≡ h
  pub held : x.rows ≡ rows

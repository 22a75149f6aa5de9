-- What the code of a step asks for: parts of the pools that lie inside them.
use Rattle.std.specs.Prelude.{ℕ, ◌*◌, ◌≤◌, ◌<◌}
use Rattle.document.specs.Sizes.{InRange}
use Rattle.layout.specs.Sizes.{wide}
use Rattle.document.specs.declared.sizes.Sizes.{Sizes}

-- a row r of l members that goes into a page: pools of these lengths have room for their slots
pub record Fillable (h : Sizes) (pages rows r l : ℕ) : Type 0 where
  pub sizes : InRange h
  pub in_pages : h.p * wide h ≤ pages
  pub in_rows : h.r * h.m ≤ rows
  pub row : r < h.r
  pub members : l ≤ h.m

-- Two sets of one shape, whose slots lie inside their pools.
use Rattle.std.specs.Prelude.{◌≡◌, ℕ, ◌*◌, ◌≤◌}
use Rattle.document.specs.Sizes.{InRange}
use Rattle.document.specs.declared.sizes.Sizes.{Sizes}
use Rattle.layout.specs.Sizes.{wide}

-- sizes h of the destination and g of the source, beside pools of these lengths
pub record PagePools (h g : Sizes) (pages spages : ℕ) : Type 0 where
  pub here : InRange h
  pub there : InRange g
  pub same : h.s ≡ g.s
  pub in_pages : h.p * wide h ≤ pages
  pub from_pages : g.p * wide g ≤ spages

pub record RowPools (h g : Sizes) (rows srows : ℕ) : Type 0 where
  pub here : InRange h
  pub there : InRange g
  pub same : h.m ≡ g.m
  pub in_rows : h.r * h.m ≤ rows
  pub from_rows : g.r * g.m ≤ srows

-- What a chunk's turn asks for, beside pools of one shape.
use Rattle.std.specs.Prelude.{◌≡◌, List, true, ℕ, ◌*◌, ◌^◌, ◌≤◌, ◌<◌}
use Rattle.document.specs.Sizes.{InRange}
use Rattle.document.specs.declared.sizes.Sizes.{Sizes}
use Rattle.layout.specs.Sizes.{wide, header_at, over_count}
use Rattle.layout.specs.declared.place.Place.{Place}
use Rattle.unions.specs.Union.{fits}

-- chunk c of the destination, at o until now, into page p
pub record Into (h : Sizes) (pages rows : ℕ) (t : List ℕ) (c : ℕ) (o : Place) (p : ℕ) : Type 0 where
  pub sizes : InRange h
  pub in_pages : h.p * wide h ≤ pages
  pub in_rows : h.r * h.m ≤ rows
  pub over : over_count t ≤ 65536
  pub chunk : c < 2 ^ 62
  pub here : fits h o ≡ true
  pub page : p < h.p

-- chunk c at o in the destination's table, at q in the source: both are the sizes'
pub record Turn (h g : Sizes) (t : List ℕ) (c : ℕ) (o q : Place) : Type 0 where
  pub header : h ≡ header_at t
  pub over : over_count t ≤ 65536
  pub chunk : c < 2 ^ 62
  pub here : fits h o ≡ true
  pub there : fits g q ≡ true

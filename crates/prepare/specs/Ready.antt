-- What the loop and each of its turns ask for: parts of the pools that lie inside them.
use Rattle.std.specs.Prelude.{◌≡◌, List, false, ℕ, ◌*◌, ◌^◌, ◌≤◌, ◌<◌, length, Ok}
use Rattle.layout.specs.Mem.{mem}
use Rattle.document.specs.Sizes.{InRange}
use Rattle.layout.specs.Sizes.{wide, blocks_of, header_at, over_count}
use Rattle.layout.specs.Places.{has_page}
use Rattle.layout.specs.Entries.{word_of, place_of}
use Rattle.layout.specs.Short.{word_in}
use Rattle.calls.specs.Prepare.{HasRoom}
use Rattle.document.specs.declared.sizes.Sizes.{Sizes}
use Rattle.layout.specs.declared.place.Place.{Place}
use Rattle.layout.specs.declared.place.Place.TheVariants.{Absent, Sparse, Dense}

-- the walk passed and there is room for chunks 0 to c dense, beside block counts that are long enough
abbrev pub Sound : List ℕ → List ℕ → List ℕ → ℕ → Type 0
Sound pages rows t c = (b : List ℕ) → (header_at t).p * blocks_of (header_at t) ≤ length b → HasRoom (mem pages rows b t) c

-- a place that is a row: one of the pool's, with as many members as fit
abbrev pub RowInside : Sizes → Place → Type 0
RowInside h Absent = Unit
RowInside h (Sparse r l) = (r < h.r) × (l ≤ h.m)
RowInside h (Dense p) = Unit

-- chunk c's turn: it has one word, a row that it names lies inside its pool, and so does page p where it needs one
pub record Turnable (h : Sizes) (pages rows t : List ℕ) (c p : ℕ) : Type 0 where
  pub sizes : InRange h
  pub in_pages : h.p * wide h ≤ length pages
  pub in_rows : h.r * h.m ≤ length rows
  pub over : over_count t ≤ 65536
  pub chunk : c < 2 ^ 62
  pub word : word_in t c ≡ Ok (word_of h t c)
  pub row : RowInside h (place_of h t c)
  pub page : has_page (place_of h t c) ≡ false → p < h.p

-- When a plan can be carried out: every row and page that it writes lies inside its slice.
use Rattle.std.specs.Prelude.{List, ℕ, ◌+◌, ◌*◌, ◌^◌, ◌≤◌, ◌<◌, length, Ok, Err}
use Rattle.document.specs.Sizes.{InRange, top}
use Rattle.layout.specs.Sizes.{wide, header_at, over_count}
use Rattle.document.specs.declared.sizes.Sizes.{Sizes}
use Rattle.calls.specs.Planned.{InsertPlan}
use Rattle.calls.specs.declared.plan.Plan.TheVariants.{Begin, Enter, Known, Mark, Turn}

-- row r, which a word names, with its l members
pub record RowReady (rows : List ℕ) (r l : ℕ) (h : Sizes) : Type 0 where
  pub row : r < 131072
  pub small : h.m ≤ 1024
  pub fits : r * h.m + h.m ≤ length rows
  pub members : l ≤ h.m

pub record MarkReady (pages : List ℕ) (o p : ℕ) (h : Sizes) : Type 0 where
  pub low : 9 ≤ h.s
  pub high : h.s ≤ 25
  pub page : p < 65536
  pub fits : p * wide h + wide h ≤ length pages
  pub offset : o < top h

pub record EnterReady (rows t : List ℕ) (c o r l k : ℕ) (h : Sizes) : Type 0 where
  pub row : RowReady rows r l h
  pub place : k ≤ l
  pub room : l < h.m
  pub offset : o < 2 ^ 32
  pub chunk : c < 2 ^ 62
  pub over : h.d ≤ c → (h.d ≤ 262144) × (over_count t ≤ 65536)

pub record BeginReady (rows t : List ℕ) (c o r : ℕ) (h : Sizes) : Type 0 where
  pub sizes : InRange h
  pub row : r < h.r
  pub in_rows : h.r * h.m ≤ length rows
  pub over : over_count t ≤ 65536
  pub chunk : c < 2 ^ 62
  pub offset : o < 2 ^ 32

pub record TurnReady (pages rows t : List ℕ) (c o r l p : ℕ) (h : Sizes) : Type 0 where
  pub sizes : InRange h
  pub row : r < h.r
  pub page : p < h.p
  pub in_rows : h.r * h.m ≤ length rows
  pub in_pages : h.p * wide h ≤ length pages
  pub members : l ≤ h.m
  pub over : over_count t ≤ 65536
  pub chunk : c < 2 ^ 62
  pub offset : o < top h

abbrev pub Ready : List ℕ → List ℕ → List ℕ → ℕ → ℕ → InsertPlan → Type 0
Ready pages rows t c o (Err n) = Unit
Ready pages rows t c o (Ok Known) = Unit
Ready pages rows t c o (Ok (Mark p)) = MarkReady pages o p (header_at t)
Ready pages rows t c o (Ok (Enter r l k)) = EnterReady rows t c o r l k (header_at t)
Ready pages rows t c o (Ok (Begin r)) = BeginReady rows t c o r (header_at t)
Ready pages rows t c o (Ok (Turn r l p)) = TurnReady pages rows t c o r l p (header_at t)

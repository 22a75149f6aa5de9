-- The header, where each part of the table begins, and how long the slices have to be.
use Rattle.std.specs.Prelude.{ℕ, ◌+◌, ◌*◌, ◌-◌, ◌^◌, ◌≤◌, List, length, get_or}
use Rattle.layout.specs.Mem.{Mem}
use Rattle.document.specs.declared.sizes.Sizes.{Sizes}

-- words of a page, block counts of a page
abbrev pub wide : Sizes → ℕ
wide h = 2 ^ (h.s - 6)

abbrev pub blocks_of : Sizes → ℕ
blocks_of h = 2 ^ (h.s - 9)

-- where each part of the table begins, and how much of it is used
abbrev pub direct_at : ℕ → ℕ
direct_at c = 16 + 2 * c

-- behind d direct entries
abbrev pub over_start : ℕ → ℕ
over_start d = direct_at d

abbrev pub over_at : Sizes → ℕ → ℕ
over_at h j = over_start h.d + 3 * j

abbrev pub row_owners_at : Sizes → ℕ
row_owners_at h = over_at h h.v

abbrev pub page_owners_at : Sizes → ℕ
page_owners_at h = row_owners_at h + h.r

abbrev pub table_size : Sizes → ℕ
table_size h = page_owners_at h + h.p

pub record Roomy (h : Sizes) (pages rows blocks table : ℕ) : Type 0 where
  pub in_pages : h.p * wide h ≤ pages
  pub in_rows : h.r * h.m ≤ rows
  pub in_blocks : h.p * blocks_of h ≤ blocks
  pub in_table : table_size h ≤ table

abbrev pub RoomIn : Sizes → Mem → Type 0
RoomIn h x = Roomy h (length x.pages) (length x.rows) (length x.blocks) (length x.table)

-- the header of a table
abbrev pub header_at : List ℕ → Sizes
header_at t = record { s = get_or t 0 0; m = get_or t 1 0; d = get_or t 2 0; v = get_or t 3 0; r = get_or t 4 0; p = get_or t 5 0 }

abbrev pub head : Mem → Sizes
head x = header_at x.table

abbrev pub mode_at : List ℕ → ℕ
mode_at t = get_or t 6 0

-- overflow entries in use
abbrev pub over_count : List ℕ → ℕ
over_count t = get_or t 7 0

abbrev pub total_at : List ℕ → ℕ
total_at t = get_or t 8 0

-- no row below it is free, no page below it is free
abbrev pub rows_from : List ℕ → ℕ
rows_from t = get_or t 9 0

abbrev pub pages_from : List ℕ → ℕ
pages_from t = get_or t 10 0

-- What judging asks of each side, and what it counts.
use Rattle.std.specs.Prelude.{◌≡◌, List, Bool, not, ◌&&◌, ℕ, ◌+◌, ◌*◌, ◌^◌, ◌≤◌, ◌<◌, length, leb}
use mir.Val.{bool_byte}
use Rattle.sums.specs.Ids.{count}
use Rattle.document.specs.Sizes.{InRange}
use Rattle.document.specs.declared.sizes.Sizes.{Sizes}
use Rattle.layout.specs.Mem.{Mem, mem}
use Rattle.layout.specs.Sizes.{header_at, over_count}
use Rattle.layout.specs.Places.{has_row, has_page}
use Rattle.layout.specs.Entries.{entries, chunk_at}
use Rattle.layout.specs.declared.place.Place.{Place}
use Rattle.unions.specs.Union.{is_placed, new_entry, new_row, freed_row, new_page}
use Rattle.merge_plan.specs.declared.judge.Growth.{Growth}

-- a side that passed the walk, by its sizes, its rows and its table
pub record Passed (h : Sizes) (rows t : List ℕ) : Type 0 where
  pub sizes : InRange h
  pub header : h ≡ header_at t
  pub in_rows : h.r * h.m ≤ length rows
  pub over : over_count t ≤ 65536
  pub chunks : (e : ℕ) → e < entries h t → chunk_at h t e < 2 ^ 62

-- on every two memories with these rows and tables, whatever else they hold
abbrev pub OnAny : List ℕ → List ℕ → List ℕ → List ℕ → (Mem → Mem → Type 0) → Type 0
OnAny rows t srows st P = (p b u v : List ℕ) → P (mem p rows b t) (mem u srows v st)

-- ---- how the map grows

-- by the source's first n entries
unfoldable pub growth_to : Mem → Mem → ℕ → Growth
growth_to x y n = record { entries = count (new_entry x y) n; rows = count (new_row x y) n; freed = count (freed_row x y) n; pages = count (new_page x y) n }

-- by n, and by chunk c, at o here and at q there, whose union is dense or not
abbrev pub with_chunk : Growth → Sizes → ℕ → Place → Place → Bool → Growth
with_chunk n h c o q dense = record {
  entries = n.entries + bool_byte (is_placed q && (leb h.d c && not (is_placed o)));
  rows = n.rows + bool_byte (has_row q && not (is_placed o));
  freed = n.freed + bool_byte (dense && has_row o);
  pages = n.pages + bool_byte (dense && not (has_page o));
}

-- no more than a memory has entries
pub record Small (n : Growth) : Type 0 where
  pub entries : n.entries ≤ 327680
  pub rows : n.rows ≤ 327680
  pub freed : n.freed ≤ 327680
  pub pages : n.pages ≤ 327680

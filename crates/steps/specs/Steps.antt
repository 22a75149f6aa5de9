-- The two steps: chunk c into row r, chunk c into page p.
use Rattle.std.specs.Prelude.{ℕ, ◌+◌, ◌*◌, List, replicate}
use Rattle.layout.specs.Mem.{Mem, mem}
use Rattle.layout.specs.Sizes.{wide}
use Rattle.layout.specs.Places.{encoded}
use Rattle.document.specs.declared.sizes.Sizes.{Sizes}
use Rattle.layout.specs.declared.place.Place.{Place}
use Rattle.layout.specs.declared.place.Place.TheVariants.{Absent, Sparse, Dense}
use Rattle.layout.specs.Writes.{put_part, put_word, put_row_owner, put_page_owner, put_row}

-- chunk c stands in row r, which now is the list row with l members
unfoldable pub rowed : Sizes → Mem → ℕ → ℕ → ℕ → List ℕ → Mem
rowed h x c r l row = mem x.pages (put_row h x.rows r row) x.blocks (put_row_owner h (put_word h x.table c (encoded (Sparse r l))) r (c + 1))

-- a place that is left: its row is free again and filled with zeros
abbrev pub left_owner : Sizes → List ℕ → Place → List ℕ
left_owner h t Absent = t
left_owner h t (Sparse r l) = put_row_owner h t r 0
left_owner h t (Dense p) = t

abbrev pub left_row : Sizes → List ℕ → Place → List ℕ
left_row h rows Absent = rows
left_row h rows (Sparse r l) = put_row h rows r (replicate h.m 0)
left_row h rows (Dense p) = rows

-- chunk c, until now at an old place, stands in page p, which now is the list page; a row that it had is free
unfoldable pub paged : Sizes → Mem → ℕ → Place → ℕ → List ℕ → Mem
paged h x c old p page =
    mem (put_part x.pages (p * wide h) (wide h) page) (left_row h x.rows old) x.blocks
    (put_page_owner h (left_owner h (put_word h x.table c (encoded (Dense p))) old) p (c + 1))

-- What an entry's word says of its chunk, and the parts of the pools: row r, page p, the block counts of page p.
use Rattle.std.specs.Prelude.{ℕ, ◌+◌, ◌*◌, ◌-◌, ◌/◌, ◌%◌, List, Bool, true, false, cond, get_or, take, drop, ltb, eqb}
use Rattle.layout.specs.Sizes.{wide, blocks_of, row_owners_at, page_owners_at}
use Rattle.document.specs.declared.sizes.Sizes.{Sizes}
use Rattle.layout.specs.declared.place.Place.{Place}
use Rattle.layout.specs.declared.place.Place.TheVariants.{Absent, Sparse, Dense}

abbrev pub decoded : ℕ → Place
decoded w = cond (eqb w 0) Absent (cond (ltb w 268435456) (Sparse ((w - 1) / 2048) ((w - 1) % 2048)) (Dense (w - 268435456)))

abbrev pub encoded : Place → ℕ
encoded Absent = 0
encoded (Sparse r l) = 1 + (2048 * r + l)
encoded (Dense p) = 268435456 + p

abbrev pub has_row : Place → Bool
has_row Absent = false
has_row (Sparse r l) = true
has_row (Dense p) = false

abbrev pub has_page : Place → Bool
has_page Absent = false
has_page (Sparse r l) = false
has_page (Dense p) = true

abbrev pub row_part : Sizes → List ℕ → ℕ → List ℕ
row_part h rows r = take h.m (drop (r * h.m) rows)

abbrev pub page_part : Sizes → List ℕ → ℕ → List ℕ
page_part h pages p = take (wide h) (drop (p * wide h) pages)

abbrev pub block_part : Sizes → List ℕ → ℕ → List ℕ
block_part h blocks p = take (blocks_of h) (drop (p * blocks_of h) blocks)

-- the chunk that has row r, page p, plus 1; 0 where it is free
abbrev pub row_owner : Sizes → List ℕ → ℕ → ℕ
row_owner h t r = get_or t (row_owners_at h + r) 0

abbrev pub page_owner : Sizes → List ℕ → ℕ → ℕ
page_owner h t p = get_or t (page_owners_at h + p) 0

-- What memory stands for: the plain set, the map of chunks, the mode.
use Rattle.std.specs.Prelude.{ℕ, ◌/◌, ◌%◌, Bool, false, eqb}
use Rattle.sums.specs.Ids.{Ids}
use Rattle.sparse.specs.Row.{row_of, member}
use Rattle.dense.specs.Bits.{is_set}
use Rattle.layout.specs.Mem.{Mem}
use Rattle.document.specs.Sizes.{top}
use Rattle.document.specs.State.{Kind, absent, sparse, dense, State}
use Rattle.layout.specs.Sizes.{head, mode_at}
use Rattle.layout.specs.Places.{row_part, page_part}
use Rattle.layout.specs.Entries.{place_of}
use Rattle.document.specs.declared.sizes.Sizes.{Sizes}
use Rattle.layout.specs.declared.place.Place.{Place}
use Rattle.layout.specs.declared.place.Place.TheVariants.{Absent, Sparse, Dense}

-- the offsets of a chunk at a place
abbrev pub offsets : Sizes → Mem → Place → Ids
offsets h x Absent o = false
offsets h x (Sparse r l) o = member (row_of (row_part h x.rows r)) l o
offsets h x (Dense p) o = is_set (page_part h x.pages p) o

-- id n is offset n % 2^s of chunk n / 2^s
unfoldable pub holds : Mem → Ids
holds x n = offsets (head x) x (place_of (head x) x.table (n / top (head x))) (n % top (head x))

abbrev pub kind_of : Place → Kind
kind_of Absent = absent
kind_of (Sparse r l) = sparse
kind_of (Dense p) = dense

-- the map of document 01: each chunk id's kind
unfoldable pub kinds : Mem → ℕ → Kind
kinds x c = kind_of (place_of (head x) x.table c)

-- open or ranked
abbrev pub ranked : Mem → Bool
ranked x = eqb (mode_at x.table) 1

-- the set of document 01 that it stands for
abbrev pub state_of : Mem → State
state_of x = record { sizes = head x; mode = ranked x; members = holds x; map = kinds x }

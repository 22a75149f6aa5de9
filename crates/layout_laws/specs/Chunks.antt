-- What is said of one chunk, by its place: its members, its kind as a yes or no.
use Rattle.std.specs.Prelude.{ℕ, ◌+◌, List, Bool, false, cond, take, drop, ltb, Ok, Err}
use Rattle.sums.specs.Ids.{count}
use Rattle.sparse.specs.Row.{row_of, member, below_of}
use Rattle.dense.specs.Bits.{is_set, bits_to}
use Rattle.layout.specs.Mem.{Mem}
use Rattle.document.specs.Sizes.{top}
use Rattle.layout.specs.Sizes.{over_start, head, over_count, total_at}
use Rattle.layout.specs.Places.{row_part, page_part}
use Rattle.layout.specs.Entries.{entries, prefix_at, place_of}
use Rattle.layout.specs.Meaning.{offsets}
use Rattle.layout.specs.Short.{over_place}
use Rattle.document.specs.declared.sizes.Sizes.{Sizes}
use Rattle.layout.specs.declared.place.Place.{Place}
use Rattle.layout.specs.declared.place.Place.TheVariants.{Absent, Sparse, Dense}
use Rattle.layout.specs.Found.{Spotted}
use Rattle.layout.specs.declared.find.Spot.TheVariants.{Nowhere, Page, Row}

-- what a part holds: whether offset o is in it, and how many below o
abbrev pub spot_has : Mem → Spotted → ℕ → Bool
spot_has x (Ok Nowhere) o = false
spot_has x (Ok (Row a m l)) o = member (row_of (take m (drop a x.rows))) l o
spot_has x (Ok (Page a k)) o = is_set (take k (drop a x.pages)) o
spot_has x (Err n) o = false

abbrev pub spot_below : Mem → Spotted → ℕ → ℕ
spot_below x (Ok Nowhere) o = 0
spot_below x (Ok (Row a m l)) o = below_of (row_of (take m (drop a x.rows))) l o
spot_below x (Ok (Page a k)) o = bits_to (take k (drop a x.pages)) o
spot_below x (Err n) o = 0

-- the entry of the first chunk that is not below c
unfoldable pub first_entry : Sizes → List ℕ → ℕ → ℕ
first_entry h t c = cond (ltb c h.d) c (h.d + over_place t (over_start h.d) (over_count t) c)

-- what a ranked set says of chunk c's first id: the prefix of that entry, or past the last one the total
unfoldable pub first_rank : Mem → ℕ → ℕ
first_rank x c =
    cond (ltb (first_entry (head x) x.table c) (entries (head x) x.table))
    (prefix_at (head x) x.table (first_entry (head x) x.table c))
    (total_at x.table)

-- members at a place below offset o
abbrev pub below_in : Sizes → Mem → Place → ℕ → ℕ
below_in h x Absent o = 0
below_in h x (Sparse r l) o = below_of (row_of (row_part h x.rows r)) l o
below_in h x (Dense p) o = bits_to (page_part h x.pages p) o

-- members of chunk c
unfoldable pub members_of : Mem → ℕ → ℕ
members_of x c = count (offsets (head x) x (place_of (head x) x.table c)) (top (head x))

-- `rank`, `rank_if_set` and `total_count` on any memory: one entry with its prefix, one block count, at most eight words.
use Rattle.std.specs.Prelude.{ℕ, ◌+◌, ◌*◌, ◌/◌, ◌%◌, ◌^◌, List, cond, ◌&&◌, ℤ, length, get_or, take, drop, leb, ltb, eqb, Option, Some, None, Result, Ok, Err}
use Rattle.numbers.specs.Ids.{split_of}
use Rattle.sparse.specs.Search.{lower_of}
use Rattle.dense.specs.Bits.{bits_to}
use Rattle.layout.specs.Mem.{Mem}
use Rattle.document.specs.Sizes.{top}
use Rattle.layout.specs.Sizes.{blocks_of, head, mode_at, total_at}
use Rattle.layout.specs.Places.{row_part, page_part}
use Rattle.layout.specs.Entries.{place_of}
use Rattle.layout.specs.Seat.{seat_in}
use Rattle.document.specs.Refusals.{not_laid_out, is_open}
use Rattle.layout.specs.declared.place.Place.{Place}
use Rattle.layout.specs.declared.place.Place.TheVariants.{Absent, Sparse, Dense}
use Rattle.layout_laws.specs.Chunks.{first_rank}
use Rattle.calls.specs.Reading.{shift_ok, spot_by, has_at}
use Rattle.document.specs.Results.{Amount, Perhaps, Truth}
use Rattle.document.specs.declared.refusal.Refusal.{Refusal}
use Rattle.layout.specs.Found.{Seat, Spotted}
use Rattle.layout.specs.declared.find.Spot.TheVariants.{Nowhere, Page, Row}

-- members of a page below offset o: those before its block, and those within the block of eight words
abbrev pub in_page : Mem → ℕ → ℕ → ℕ → Amount
in_page x a n o =
    cond (ltb (a / 8 + o / 512) (length x.blocks))
    (Ok (get_or x.blocks (a / 8 + o / 512) 0 + bits_to (take 8 (drop (o / 512 * 8) (take n (drop a x.pages)))) (o % 512)))
    (Err not_laid_out)

-- members of a chunk below offset o
abbrev pub below_at : Mem → ℕ → Spotted → Amount
below_at x o (Ok Nowhere) = Ok 0
below_at x o (Ok (Row a n l)) = Ok (lower_of (take n (drop a x.rows)) l o)
below_at x o (Ok (Page a n)) = in_page x a n o
below_at x o (Err n) = Err n

-- a prefix that no call wrote may be as large as a word
abbrev pub plus_before : ℕ → Amount → Amount
plus_before n (Ok k) = cond (ltb n (2 ^ 63)) (Ok (n + k)) (Err not_laid_out)
plus_before n (Err c) = Err c

abbrev pub rank_seat : Mem → ℕ → Seat → Amount
rank_seat x o (Ok (w, before)) = plus_before before (below_at x o (spot_by x w))
rank_seat x o (Err n) = Err n

abbrev pub rank_split : Mem → Option (ℕ × ℕ) → Amount
rank_split x (Some (c, o)) = rank_seat x o (seat_in x.table c)
rank_split x None = Ok 0

-- 3, then 5, then the answer
abbrev pub if_ranked : {A : Type 0} → List ℕ → Result A Refusal → Result A Refusal
if_ranked t a = cond (shift_ok t && leb (mode_at t) 1) (cond (eqb (mode_at t) 1) a (Err is_open)) (Err not_laid_out)

unfoldable pub rank_by : Mem → ℤ → Amount
rank_by x z = if_ranked x.table (rank_split x (split_of (head x).s z))

-- a ranked set that passed the walk always answers: the members of the chunks before, and by its place those of the chunk
abbrev pub below_place : Mem → ℕ → Place → ℕ
below_place x o Absent = 0
below_place x o (Sparse r l) = lower_of (row_part (head x) x.rows r) l o
below_place x o (Dense p) =
    get_or x.blocks (p * blocks_of (head x) + o / 512) 0 + bits_to (take 8 (drop (o / 512 * 8) (page_part (head x) x.pages p))) (o % 512)

unfoldable pub rank_in : Mem → ℕ → ℕ
rank_in x n = first_rank x (n / top (head x)) + below_place x (n % top (head x)) (place_of (head x) x.table (n / top (head x)))

abbrev pub perhaps_of : Amount → Perhaps
perhaps_of (Ok k) = Ok (Some k)
perhaps_of (Err c) = Err c

-- `rank_if_set`: is it there, and then where
abbrev pub if_there : Truth → Perhaps → Perhaps
if_there (Ok b) a = cond b a (Ok None)
if_there (Err n) a = Err n

abbrev pub rank_if_seat : Mem → ℕ → Seat → Perhaps
rank_if_seat x o (Ok (w, before)) = if_there (has_at x o (spot_by x w)) (perhaps_of (plus_before before (below_at x o (spot_by x w))))
rank_if_seat x o (Err n) = Err n

abbrev pub rank_if_split : Mem → Option (ℕ × ℕ) → Perhaps
rank_if_split x (Some (c, o)) = rank_if_seat x o (seat_in x.table c)
rank_if_split x None = Ok None

unfoldable pub rank_if_by : Mem → ℤ → Perhaps
rank_if_by x z = if_ranked x.table (rank_if_split x (split_of (head x).s z))

unfoldable pub total_by : Mem → Amount
total_by x = if_ranked x.table (Ok (total_at x.table))

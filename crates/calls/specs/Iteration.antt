-- Iteration from a start, on any memory: a run over the entries from the start's chunk on, until the record is full; then one range test past its last id decides the mark.
use Rattle.std.specs.Prelude.{ℕ, zero, suc, ◌-◌, ◌*◌, ◌/◌, ◌^◌, true, false, cond, List, ℤ, pos, negsuc, get_or, take, drop, ltb, Ok, Err}
use Rattle.std.proofs.Math.IntN.{suc_ℤ}
use Rattle.sums.specs.Members.{members_in, plus, fill, fill_to}
use Rattle.sparse.specs.Listed.{offsets_from}
use Rattle.dense.specs.Bits.{is_set}
use Rattle.document.specs.Sizes.{top, last_chunk}
use Rattle.document.specs.Refusals.{number, not_laid_out}
use Rattle.document.specs.Iteration.{blank, refused_listing}
use Rattle.document.specs.declared.answer.Listing.{Listing}
use Rattle.layout.specs.Mem.{Mem}
use Rattle.layout.specs.Sizes.{head}
use Rattle.calls.specs.Reading.{spot_by}
use Rattle.calls.specs.Counts.{entries_ok, entries_of, word_by}
use Rattle.calls.specs.Range.{chunk_by, entry_from, clip_low, any_by}
use Rattle.document.specs.Results.{Truth}
use Rattle.layout.specs.Found.{Spotted}
use Rattle.layout.specs.declared.find.Spot.TheVariants.{Nowhere, Page, Row}

-- the places of a record and how many are used, or a part that is not inside its pool
pub data Filled : Type 0 where
  to : List ℤ → ℕ → Filled
  bad : Filled

-- ids written from place k on
abbrev pub filled_by : List ℤ → ℕ → List ℕ → Filled
filled_by ids k ns = to (fill ids k ns) (fill_to ids k ns)

-- the ids of a part from offset a on, in a chunk whose first id is b
abbrev pub filled_at : Mem → ℕ → ℕ → List ℤ → ℕ → Spotted → Filled
filled_at x b a ids k (Ok Nowhere) = to ids k
filled_at x b a ids k (Ok (Row i n l)) = filled_by ids k (plus b (offsets_from (take n (drop i x.rows)) l (top (head x)) a))
filled_at x b a ids k (Ok (Page i n)) = filled_by ids k (plus b (members_in (is_set (take n (drop i x.pages))) a (64 * n - a)))
filled_at x b a ids k (Err n) = bad

-- those of entry e that are not below lo; a chunk id of 2^(63-s) or more is no chunk's
unfoldable pub fill_entry : Mem → ℕ → ℕ → List ℤ → ℕ → Filled
fill_entry x lo e ids k =
    cond (ltb (chunk_by x e) (last_chunk (head x)))
    (filled_at x (chunk_by x e * top (head x)) (clip_low (top (head x)) lo (chunk_by x e)) ids k (spot_by x (word_by x e)))
    bad

abbrev pub and_next : Filled → (List ℤ → ℕ → Filled) → Filled
and_next (to ids k) f = f ids k
and_next bad f = bad

-- n entries from e on, while the record has room
unfoldable pub fill_run : Mem → ℕ → ℕ → ℕ → List ℤ → ℕ → Filled
fill_run x lo zero e ids k = to ids k
fill_run x lo (suc n) e ids k = cond (ltb k 64) (and_next (fill_entry x lo e ids k) (fill_run x lo n (suc e))) (to ids k)

unfoldable pub fill_from : Mem → ℕ → Filled
fill_from x lo = fill_run x lo (entries_of x - entry_from x (lo / top (head x))) (entry_from x (lo / top (head x))) blank 0

-- ---- the record

-- the last id of a full one
abbrev pub last_id : List ℤ → ℤ
last_id ids = get_or ids 63 (pos 0)

abbrev pub ended : List ℤ → ℕ → ℤ → Listing
ended ids k start = record { ids = ids; count = k; end = true; next = start; refusal = 0 }

abbrev pub goes_on : List ℤ → ℕ → Listing
goes_on ids k = record { ids = ids; count = k; end = false; next = suc_ℤ (last_id ids); refusal = 0 }

-- by whether there is a member past the last id
abbrev pub ended_by : List ℤ → ℕ → ℤ → Truth → Listing
ended_by ids k start (Ok true) = goes_on ids k
ended_by ids k start (Ok false) = ended ids k start
ended_by ids k start (Err n) = refused_listing (number n)

abbrev pub record_by : Mem → ℤ → Filled → Listing
record_by x start (to ids k) =
    cond (ltb k 64) (ended ids k start) (ended_by ids k start (any_by x (suc_ℤ (last_id ids)) (pos (2 ^ 63 - 1))))
record_by x start bad = refused_listing (number not_laid_out)

-- a negative start is read as 0
abbrev pub from_zero : ℤ → ℕ
from_zero (pos n) = n
from_zero (negsuc n) = 0

-- `iter_from`
unfoldable pub iter_by : Mem → ℤ → Listing
iter_by x start = cond (entries_ok x.table) (record_by x start (fill_from x (from_zero start))) (refused_listing (number not_laid_out))

-- Counts of members and of chunks, on any memory: a run over the entries.
use Rattle.std.specs.Prelude.{ℕ, ◌*◌, List, Bool, true, false, cond, not, ◌&&◌, take, drop, eqb, Ok, Err}
use Rattle.sums.specs.Sums.{sum_to}
use Rattle.sums.specs.Ids.{count}
use Rattle.sums.specs.Rules.{all_to}
use Rattle.dense.specs.Bits.{bits_to}
use Rattle.layout.specs.Mem.{Mem}
use Rattle.layout.specs.Sizes.{header_at, head}
use Rattle.layout.specs.Entries.{entries, word_at}
use Rattle.layout.specs.Short.{entries_in}
use Rattle.document.specs.Refusals.{not_laid_out}
use Rattle.calls.specs.Reading.{shift_ok, spot_by}
use Rattle.document.specs.Results.{Amount, Truth}
use Rattle.layout.specs.Found.{Spotted}
use Rattle.layout.specs.declared.find.Spot.TheVariants.{Nowhere, Page, Row}

-- the entries are within the sizes and lie inside the table
abbrev pub entries_ok : List ℕ → Bool
entries_ok t = shift_ok t && entries_in t (header_at t).d

-- how many entries there are, and the word of entry e
abbrev pub entries_of : Mem → ℕ
entries_of x = entries (head x) x.table

abbrev pub word_by : Mem → ℕ → ℕ
word_by x e = word_at (head x) x.table e

-- whether a part is inside its pool, and its members
abbrev pub is_good : Spotted → Bool
is_good (Ok Nowhere) = true
is_good (Ok (Row a n l)) = true
is_good (Ok (Page a n)) = true
is_good (Err n) = false

abbrev pub size_in : Mem → Spotted → ℕ
size_in x (Ok Nowhere) = 0
size_in x (Ok (Row a n l)) = l
size_in x (Ok (Page a n)) = bits_to (take n (drop a x.pages)) (64 * n)
size_in x (Err n) = 0

unfoldable pub good_at : Mem → ℕ → Bool
good_at x e = is_good (spot_by x (word_by x e))

unfoldable pub size_by : Mem → ℕ → ℕ
size_by x e = size_in x (spot_by x (word_by x e))

unfoldable pub used_at : Mem → ℕ → Bool
used_at x e = not (eqb (word_by x e) 0)

-- every entry's part is inside its pool
unfoldable pub parts_ok : Mem → Bool
parts_ok x = entries_ok x.table && all_to (good_at x) (entries_of x)

-- `len`, `is_empty`
unfoldable pub len_by : Mem → Amount
len_by x = cond (parts_ok x) (Ok (sum_to (size_by x) (entries_of x))) (Err not_laid_out)

unfoldable pub is_empty_by : Mem → Truth
is_empty_by x = cond (parts_ok x) (Ok (all_to (λ (e : ℕ). eqb (size_by x e) 0) (entries_of x))) (Err not_laid_out)

-- `has_any`, `allocated_chunk_count`
unfoldable pub has_any_by : Mem → Truth
has_any_by x = cond (entries_ok x.table) (Ok (not (eqb (count (used_at x) (entries_of x)) 0))) (Err not_laid_out)

unfoldable pub chunks_by : Mem → Amount
chunks_by x = cond (entries_ok x.table) (Ok (count (used_at x) (entries_of x))) (Err not_laid_out)

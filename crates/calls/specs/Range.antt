-- The range test, on any memory: a run over the entries from the low end's chunk on, each clipped, up to the first that doesn't answer no.
use Rattle.std.specs.Prelude.{ℕ, zero, suc, ◌+◌, ◌-◌, ◌/◌, ◌%◌, true, false, cond, ℤ, pos, negsuc, take, drop, leb, ltb, eqb, Ok, Err}
use Rattle.sparse.specs.Search as sparse
use Rattle.dense.specs.Bits as dense
use Rattle.document.specs.Sizes.{top}
use Rattle.document.specs.Refusals.{not_laid_out}
use Rattle.layout.specs.Mem.{Mem}
use Rattle.layout.specs.Sizes.{head, direct_at, over_count}
use Rattle.layout.specs.Entries.{chunk_at}
use Rattle.layout.specs.Short.{over_place}
use Rattle.calls.specs.Reading.{spot_by}
use Rattle.calls.specs.Counts.{entries_ok, entries_of, word_by}
use Rattle.document.specs.Results.{Truth}
use Rattle.layout.specs.Found.{Spotted}
use Rattle.layout.specs.declared.find.Spot.TheVariants.{Nowhere, Page, Row}

-- the chunk id of entry e, and the first entry whose chunk id is not below c: by index, by search past the direct ones
abbrev pub chunk_by : Mem → ℕ → ℕ
chunk_by x e = chunk_at (head x) x.table e

unfoldable pub entry_from : Mem → ℕ → ℕ
entry_from x c = cond (ltb c (head x).d) c ((head x).d + over_place x.table (direct_at (head x).d) (over_count x.table) c)

-- the ids lo to hi clipped to chunk c, which has u
abbrev pub clip_low : ℕ → ℕ → ℕ → ℕ
clip_low u lo c = cond (eqb c (lo / u)) (lo % u) 0

abbrev pub clip_high : ℕ → ℕ → ℕ → ℕ
clip_high u hi c = cond (eqb c (hi / u)) (hi % u) (u - 1)

-- whether a part has an offset in a to b
abbrev pub any_at : Mem → ℕ → ℕ → Spotted → Truth
any_at x a b (Ok Nowhere) = Ok false
any_at x a b (Ok (Row i n l)) = Ok (sparse.any_in (take n (drop i x.rows)) l a b)
any_at x a b (Ok (Page i n)) = Ok (dense.any_in (take n (drop i x.pages)) a b)
any_at x a b (Err n) = Err n

-- whether entry e has an id in lo to hi
unfoldable pub any_entry : Mem → ℕ → ℕ → ℕ → Truth
any_entry x lo hi e = any_at x (clip_low (top (head x)) lo (chunk_by x e)) (clip_high (top (head x)) hi (chunk_by x e)) (spot_by x (word_by x e))

-- the first that doesn't answer no decides
abbrev pub or_next : Truth → Truth → Truth
or_next (Ok true) r = Ok true
or_next (Ok false) r = r
or_next (Err n) r = Err n

-- n entries from e on, up to the first whose chunk is past hi's
unfoldable pub any_run : Mem → ℕ → ℕ → ℕ → ℕ → Truth
any_run x lo hi zero e = Ok false
any_run x lo hi (suc n) e = cond (leb (chunk_by x e) (hi / top (head x))) (or_next (any_entry x lo hi e) (any_run x lo hi n (suc e))) (Ok false)

unfoldable pub any_from : Mem → ℕ → ℕ → Truth
any_from x lo hi = any_run x lo hi (entries_of x - entry_from x (lo / top (head x))) (entry_from x (lo / top (head x)))

-- false if min > max or max < 0, a negative min is read as 0
abbrev pub any_of : Mem → ℤ → ℤ → Truth
any_of x (pos a) (pos b) = cond (ltb b a) (Ok false) (any_from x a b)
any_of x (negsuc a) (pos b) = any_from x 0 b
any_of x lo (negsuc b) = Ok false

-- `any_in_range`
unfoldable pub any_by : Mem → ℤ → ℤ → Truth
any_by x lo hi = cond (entries_ok x.table) (any_of x lo hi) (Err not_laid_out)

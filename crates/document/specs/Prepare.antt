-- `pre_allocate`: the answer, and the set after it.
use Rattle.std.specs.Prelude.{ℕ, ◌/◌, true, cond, leb, ℤ, pos, negsuc, Ok, Err}
use Rattle.document.specs.Sizes.{top}
use Rattle.document.specs.State.{Kind, dense, State}
use Rattle.document.specs.Refusals.{is_ranked}
use Rattle.document.specs.Room.{verdict}
use Rattle.document.specs.Insert.{done}
use Rattle.document.specs.Results.{Outcome}

-- the map with chunks 0 to c dense
unfoldable pub dense_map : State → ℕ → ℕ → Kind
dense_map q c c' = cond (leb c' c) dense (q.map c')

-- 4; a negative maximum does nothing; else 6, 8 or chunks 0 to the maximum's become dense
unfoldable pub prepare_answer : State → ℤ → Outcome
prepare_answer q (pos n) = cond q.mode (Err is_ranked) (done (verdict q.sizes (dense_map q (n / top q.sizes)) (Ok true)))
prepare_answer q (negsuc n) = cond q.mode (Err is_ranked) (Ok tt)

abbrev pub map_prepared : State → ℤ → ℕ → Kind
map_prepared q (pos n) = dense_map q (n / top q.sizes)
map_prepared q (negsuc n) = q.map

abbrev pub readied : State → ℤ → Outcome → State
readied q z (Ok tt) = record { sizes = q.sizes; mode = q.mode; members = q.members; map = map_prepared q z }
readied q z (Err n) = q

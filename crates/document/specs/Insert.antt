-- Insert and prepared insert: the answer, and the set after it.
use Rattle.std.specs.Prelude.{ℕ, ◌+◌, ◌*◌, ◌/◌, Bool, true, false, cond, ◌||◌, ltb, eqb, ℤ, pos, negsuc, Ok, Err}
use Rattle.sums.specs.Ids.{count}
use Rattle.document.specs.Sizes.{top}
use Rattle.document.specs.State.{Kind, absent, sparse, dense, State}
use Rattle.document.specs.Refusals.{is_ranked, not_prepared}
use Rattle.document.specs.Room.{verdict}
use Rattle.document.specs.Results.{Outcome, Truth}

-- members of chunk c
unfoldable pub chunk_size : State → ℕ → ℕ
chunk_size q c = count (λ (o : ℕ). q.members (c * top q.sizes + o)) (top q.sizes)

-- a chunk of n members that gets a new one: absent, it starts sparse; sparse with m members, it becomes dense
abbrev pub grown : Kind → ℕ → ℕ → Kind
grown absent n m = sparse
grown sparse n m = cond (ltb n m) sparse dense
grown dense n m = dense

-- the map with a new member in chunk c
unfoldable pub grown_map : State → ℕ → ℕ → Kind
grown_map q c c' = cond (eqb c' c) (grown (q.map c) (chunk_size q c) q.sizes.m) (q.map c')

-- 4; negative or a member, no; else 6, 7, 8 or yes
unfoldable pub new_answer : State → ℤ → Truth
new_answer q (pos n) =
    cond q.mode (Err is_ranked) (cond (q.members n) (Ok false) (verdict q.sizes (grown_map q (n / top q.sizes)) (Ok true)))
new_answer q (negsuc n) = cond q.mode (Err is_ranked) (Ok false)

-- `set` drops the answer
abbrev pub done : Truth → Outcome
done (Ok b) = Ok tt
done (Err n) = Err n

-- prepared insert: 4; 9 unless the chunk is dense; else whether the id is new
abbrev pub if_dense : Kind → Truth → Truth
if_dense absent a = Err not_prepared
if_dense sparse a = Err not_prepared
if_dense dense a = a

unfoldable pub prepared_answer : State → ℤ → Truth
prepared_answer q (pos n) = cond q.mode (Err is_ranked) (if_dense (q.map (n / top q.sizes)) (Ok (cond (q.members n) false true)))
prepared_answer q (negsuc n) = cond q.mode (Err is_ranked) (Err not_prepared)

-- ---- the set after an answer

abbrev pub is_id : ℤ → ℕ → Bool
is_id (pos i) n = eqb n i
is_id (negsuc i) n = false

-- a new member may change its chunk's kind
abbrev pub map_after : State → ℤ → Bool → ℕ → Kind
map_after q (pos n) true = grown_map q (n / top q.sizes)
map_after q (pos n) false = q.map
map_after q (negsuc n) b = q.map

abbrev pub inserted : State → ℤ → Truth → State
inserted q z (Ok b) = record { sizes = q.sizes; mode = q.mode; members = λ (n : ℕ). q.members n || is_id z n; map = map_after q z b }
inserted q z (Err n) = q

-- Union: the answer, and both sets after it.
use Rattle.std.specs.Prelude.{ℕ, ◌+◌, ◌*◌, Bool, true, cond, ◌&&◌, ◌||◌, leb, eqb, Ok, Err}
use Rattle.sums.specs.Ids.{Ids, count}
use Rattle.document.specs.Sizes.{top}
use Rattle.document.specs.State.{Kind, absent, sparse, dense, State, empty}
use Rattle.document.specs.Refusals.{is_ranked, sizes_differ}
use Rattle.document.specs.Room.{verdict}
use Rattle.document.specs.Insert.{done}
use Rattle.document.specs.declared.sizes.Sizes.{Sizes}
use Rattle.document.specs.Results.{Outcome}

-- `merge_from`, and `merge`, after which the source is empty and open
pub data Join : Type 0 where
  merge_from : Join
  merge : Join

-- a member of either
unfoldable pub either : Ids → Ids → Ids
either P Q n = P n || Q n

-- members of chunk c of the union
unfoldable pub union_size : State → State → ℕ → ℕ
union_size q p c = count (λ (o : ℕ). either q.members p.members (c * top q.sizes + o)) (top q.sizes)

-- a chunk of n members in the union: an absent one is copied with its kind, any dense side gives dense, two sparse ones stay sparse up to m members
abbrev pub joined : Kind → Kind → ℕ → ℕ → Kind
joined absent k n m = k
joined sparse absent n m = sparse
joined sparse sparse n m = cond (leb n m) sparse dense
joined sparse dense n m = dense
joined dense k n m = dense

unfoldable pub union_map : State → State → ℕ → Kind
union_map q p c = joined (q.map c) (p.map c) (union_size q p c) q.sizes.m

abbrev pub same_shape : Sizes → Sizes → Bool
same_shape h g = eqb h.s g.s && eqb h.m g.m

-- 4 for a ranked destination, `merge` from a ranked source too
abbrev pub barred : State → State → Join → Bool
barred q p merge_from = q.mode
barred q p merge = q.mode || p.mode

-- 4, then 10, then 6, 7, 8 on the map after
unfoldable pub union_answer : State → State → Join → Outcome
union_answer q p j =
    cond (barred q p j) (Err is_ranked)
    (cond (same_shape q.sizes p.sizes) (done (verdict q.sizes (union_map q p) (Ok true))) (Err sizes_differ))

-- ---- the sets after an answer

abbrev pub united : State → State → Outcome → State
united q p (Ok tt) = record { sizes = q.sizes; mode = q.mode; members = either q.members p.members; map = union_map q p }
united q p (Err n) = q

-- the source
abbrev pub leftover : State → Join → Outcome → State
leftover p merge_from a = p
leftover p merge (Ok tt) = empty p.sizes
leftover p merge (Err n) = p

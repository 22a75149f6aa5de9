-- Planning on any memory: a walk, the room, then a boundary at a time.
use Rattle.std.specs.Prelude.{◌≡◌, ℕ, zero, suc, ◌+◌, ◌-◌, ◌*◌, ◌/◌, ◌^◌, List, true, cond, ℤ, pos, length, set, leb, ltb, eqb, Ok, Err}
use Rattle.sums.specs.Cuts.{size, parts}
use Rattle.document.specs.Plan.{plan_of}
use Rattle.document.specs.Refusals.{not_laid_out, is_open, no_room}
use Rattle.layout.specs.Mem.{Mem}
use Rattle.layout.specs.Sizes.{head, mode_at, total_at}
use Rattle.layout.specs.Meaning.{ranked}
use Rattle.layout.specs.Tests.{Walked, walked}
use Rattle.ranks.specs.Rank.{rank_in}
use Rattle.document.specs.Results.{Planning}

-- the search narrows lo to hi until one id is left, turns times at most
unfoldable pub narrow_in : ℕ → (ℕ → ℕ) → ℕ → ℕ → ℕ → ℕ
narrow_in zero f m lo hi = lo
narrow_in (suc turns) f m lo hi =
    cond (ltb lo hi)
    (cond (leb m (f (lo + (hi - lo) / 2))) (narrow_in turns f m lo (lo + (hi - lo) / 2)) (narrow_in turns f m (lo + (hi - lo) / 2 + 1) hi))
    lo

unfoldable pub narrowed : (ℕ → ℕ) → ℕ → ℕ → ℕ → ℕ
narrowed f m lo hi = narrow_in (hi - lo) f m lo hi

-- a ranked set that passed the walk: no rank of it is refused
pub record Ready (x : Mem) : Type 0 where
  pub walks : Walked x (head x)
  pub mode : ranked x ≡ true

-- the smallest id of 0 or more whose rank is at least m
unfoldable pub boundary_by : Mem → ℕ → ℕ
boundary_by x m = narrowed (rank_in x) m 0 (2 ^ 63 - 1)

-- boundaries 1 to k, in the first k places
unfoldable pub bounds_to : Mem → ℕ → List ℤ → ℕ → List ℤ
bounds_to x slots bs zero = bs
bounds_to x slots bs (suc k) = set (bounds_to x slots bs k) k (pos (boundary_by x (suc k * size slots)))

-- an answer, and the boundaries after the call
pub record Cut : Type 0 where
  pub answer : Planning
  pub bounds : List ℤ

abbrev pub cut : Planning → List ℤ → Cut
cut a bs = record { answer = a; bounds = bs }

abbrev pub plan_total : Mem → ℕ → List ℤ → ℕ → Cut
plan_total x slots bs t = cond (ltb (length bs) (parts t slots - 1)) (cut (Err no_room) bs) (cut (Ok (plan_of t slots)) (bounds_to x slots bs (parts t slots - 1)))

-- 3, then 5, then 11
unfoldable pub plan_by : Mem → ℕ → List ℤ → Cut
plan_by x slots bs = cond (walked x) (cond (eqb (mode_at x.table) 1) (plan_total x slots bs (total_at x.table)) (cut (Err is_open) bs)) (cut (Err not_laid_out) bs)

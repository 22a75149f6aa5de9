-- Planning for S: the answer, and the boundaries after it.
use Rattle.std.specs.Prelude.{◌≡◌, ℕ, suc, ◌-◌, ◌*◌, ◌<◌, ◌≤◌, List, cond, ℤ, pos, length, get_or, ltb, Ok, Err}
use Rattle.sums.specs.Ids.{total}
use Rattle.sums.specs.Cuts.{size, parts, Least}
use Rattle.document.specs.State.{State}
use Rattle.document.specs.Refusals.{is_open, no_room}
use Rattle.document.specs.declared.plan.Plan.{Plan}
use Rattle.document.specs.Results.{Planning}
use Rattle.document.specs.declared.refusal.Refusal.{Refusal}

-- the record of t members cut for S, which is read as 1 where it is 0
abbrev pub plan_of : ℕ → ℕ → Plan
plan_of t S = record { total = t; slots = size S; partitions = parts t S }

-- 5 on an open set; 11 exactly when partitions less 1 exceeds the room
unfoldable pub plan_answer : State → ℕ → ℕ → Planning
plan_answer q S room =
    cond q.mode
    (cond (ltb room (parts (total q.members) S - 1)) (Err no_room) (Ok (plan_of (total q.members) S)))
    (Err is_open)

-- planning of the set q for S answers a and takes boundaries bs to boundaries cs
pub record PlansFor (q : State) (S : ℕ) (bs : List ℤ) (a : Planning) (cs : List ℤ) : Type 0 where
  pub answer : a ≡ plan_answer q S (length bs)
  pub refused : (n : Refusal) → a ≡ Err n → cs ≡ bs
  pub same_length : length cs ≡ length bs
  -- boundary k is the smallest id of 0 or more whose rank is at least kS
  pub boundaries : a ≡ Ok (plan_of (total q.members) S) → (k : ℕ) → suc k < parts (total q.members) S →
      (b : ℕ) × (get_or cs k (pos 0) ≡ pos b) × Least q.members (suc k * size S) b
  pub spare : (k : ℕ) → parts (total q.members) S - 1 ≤ k → get_or cs k (pos 0) ≡ get_or bs k (pos 0)

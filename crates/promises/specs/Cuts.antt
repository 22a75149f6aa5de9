-- Demand 3, of an answer and boundaries that planning's contract allows.
use Rattle.std.specs.Prelude.{◌≡◌, ℕ, ◌*◌, ◌-◌, ◌<◌, ◌≤◌, List, ℤ, length, Ok, Err}
use Rattle.sums.specs.Ids.{Ids, total}
use Rattle.sums.specs.Cuts.{size, parts, held}
use Rattle.sums.specs.Planned.{Planned}
use Rattle.document.specs.Refusals.{no_room}
use Rattle.document.specs.Plan.{plan_of}
use Rattle.document.specs.Spans.{interval_of, span_at, ids_answer, ranks_answer}
use Rattle.document.specs.Results.{Planning}

-- planning the set P for S answered a and took boundaries bs to boundaries cs
pub record Cuts (P : Ids) (S : ℕ) (bs : List ℤ) (a : Planning) (cs : List ℤ) : Type 0 where
  -- it refuses exactly when there are more boundaries than room, and then writes none
  pub refuses : length bs < parts (total P) S - 1 → (a ≡ Err no_room) × (cs ≡ bs)
  pub makes : parts (total P) S - 1 ≤ length bs → a ≡ Ok (plan_of (total P) S)
  -- else `ids` answers intervals that cover every i64 once, interval k holds exactly the members ranked from kS up to (k+1)S, and no cutting has fewer
  pub ids : parts (total P) S - 1 ≤ length bs → (k : ℕ) → k < parts (total P) S →
      ids_answer (plan_of (total P) S) cs k ≡ Ok (span_at (plan_of (total P) S) cs k)
  pub cuts : parts (total P) S - 1 ≤ length bs → Planned P S (parts (total P) S) (λ (k : ℕ). interval_of (span_at (plan_of (total P) S) cs k))
  -- and `ranks` answers their first ranks and counts
  pub counts : parts (total P) S - 1 ≤ length bs → (k : ℕ) → k < parts (total P) S →
      ranks_answer (plan_of (total P) S) k ≡ Ok (record { first = (k * size S); count = (held P (interval_of (span_at (plan_of (total P) S) cs k))) })

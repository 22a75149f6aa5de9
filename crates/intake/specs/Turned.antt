-- What was inserted before the first fault: the set of the ids before it.
use Rattle.std.specs.Prelude.{◌≡◌, Bool, false, ◌||◌, List, [], ◌∷◌, ◌++◌, ℕ, ℤ, Err}
use Rattle.document.specs.State.{State}
use Rattle.document.specs.Insert.{new_answer, is_id}
use Rattle.program.specs.Turns.{Run}
use Rattle.program.specs.Faults.{Ended}
use Rattle.program.specs.declared.Fault.TheVariants.{Call}
use Rattle.document.specs.declared.refusal.Refusal.{Refusal}

-- n is one of these ids
unfoldable pub among : List ℤ → ℕ → Bool
among [] n = false
among (z ∷ zs) n = is_id z n || among zs n

-- no id is left, and it ends as e; or the first that is left is refused
abbrev pub EndsBy : Ended → Run State → List ℤ → Type 0
EndsBy e r [] = r.ended ≡ e
EndsBy e r (z ∷ zs) = (c : Refusal) × (new_answer r.left z ≡ Err c) × (r.ended ≡ Err (Call c))

-- of the ids zs, put in turn into the set q, some are inserted, and the rest decides
pub record Turned (q : State) (zs : List ℤ) (e : Ended) (r : Run State) : Type 0 where
  pub before : List ℤ
  pub rest : List ℤ
  pub split : before ++ rest ≡ zs
  pub members : (n : ℕ) → r.left.members n ≡ (q.members n || among before n)
  pub decides : EndsBy e r rest

-- What one turn of the run leaves.
use Rattle.std.specs.Prelude.{◌≡◌, List, ℤ, ℕ, Result, Ok, Err}
use Rattle.calls.specs.Iteration.{Filled, to, bad}
use Rattle.document.specs.Refusals.{not_laid_out}
use Rattle.document.specs.declared.refusal.Refusal.{Refusal}

-- the places of a record after a step that answers the first that is unused, or 3
abbrev pub Leaves : Result ℕ Refusal → List ℤ → Filled → Type 0
Leaves (Ok k) ids f = to ids k ≡ f
Leaves (Err n) ids f = (n ≡ not_laid_out) × (bad ≡ f)

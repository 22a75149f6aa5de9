-- Iteration by calls: records one after the other, each one that its contract allows, each next one from the next start that the last gave.
use Rattle.std.specs.Prelude.{◌≡◌, true, false, List, [], ◌∷◌, ◌+◌, ◌/◌, ◌≤◌, ℤ, length}
use Rattle.sums.specs.Ids.{Ids, total}
use Rattle.document.specs.Calls.{iterate, listed}
use Rattle.document.specs.Listings.{listed_ids, ListsFrom}
use Rattle.document.specs.declared.answer.Listing.{Listing}
use Rattle.layout.specs.Mem.{Mem}
use Rattle.contracts.specs.Does.{Answers}

-- up to the first with the mark
abbrev pub Asked : Mem → ℤ → List Listing → Type 0
Asked x start [] = ⊥
Asked x start (r ∷ rs) = Answers x (iterate start) (listed r) × (r.end ≡ true → rs ≡ []) × (r.end ≡ false → Asked x r.next rs)

-- not farther than that
abbrev pub Asking : Mem → ℤ → List Listing → Type 0
Asking x start [] = Unit
Asking x start (r ∷ rs) = Answers x (iterate start) (listed r) × (r.end ≡ true → rs ≡ []) × (r.end ≡ false → Asking x r.next rs)

-- records from a start on list exactly the members of P that are not below it, each once, rising, in at most total / 64 + 1 calls
pub record AllListed (P : Ids) (start : ℤ) (rs : List Listing) : Type 0 where
  pub lists : ListsFrom P start (listed_ids rs)
  pub soon : length rs ≤ total P / 64 + 1

-- What the contract of planning says: its model on any memory, and document 01's words on memory that follows the layout.
use Rattle.std.specs.Prelude.{◌≡◌, ℕ, List, ℤ}
use Rattle.layout.specs.Mem.{Mem}
use Rattle.layout.specs.Meaning.{state_of}
use Rattle.layout.specs.Follows.{Follows}
use Rattle.document.specs.Plan.{PlansFor}
use Rattle.cuts.specs.Plan.{cut, plan_by}
use Rattle.document.specs.Results.{Planning}

-- on memory x planning for so many slots answers a and takes boundaries bs to boundaries cs
pub record Plans (x : Mem) (slots : ℕ) (bs : List ℤ) (a : Planning) (cs : List ℤ) : Type 0 where
  pub by : cut a cs ≡ plan_by x slots bs
  pub says : Follows x → PlansFor (state_of x) slots bs a cs

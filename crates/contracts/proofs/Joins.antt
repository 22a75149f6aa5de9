-- From the union's model to what its contract says, by the laws of `unions`. Assumes nothing.
use mathlib.Core.Path.{◌≡◌, sym, subst}
use Rattle.document.specs.Union.{Join}
use Rattle.layout.specs.Mem.{Mem}
use Rattle.layout.specs.Follows.{Follows}
use Rattle.unions.specs.Union.{Met, met, union_by}
use Rattle.unions.proofs.Said.{union_says}
use Rattle.contracts.specs.Does.{RightUnion, Joins}
use Rattle.document.specs.Results.{Outcome}

abbrev Right : Mem → Mem → Join → Met → Type 0
Right x y j m = RightUnion x y j m.answer m.here m.there

right : {x y : Mem} → Follows x → Follows y → (j : Join) → Right x y j (union_by x y j)
right w v j =
    let u = union_says w v j in
    record { follows = u.follows; source_follows = u.source_follows; said = u.answer; state = u.state; source_state = u.source_state }

-- a call that meets its model does what document 01 says
pub joins : (x y : Mem) (j : Join) {a : Outcome} {u z : Mem} → met a u z ≡ union_by x y j → Joins x y j a u z
joins x y j e = record { by = e; says = λ w v. subst (Right x y j) (sym e) (right w v j) }

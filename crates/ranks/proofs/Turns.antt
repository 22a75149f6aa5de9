-- What ranking and leaving it do, part by part.
use mathlib.Core.Path.{◌≡◌}
use Prim.Native.Nat.{ℕ}
use mathlib.Core.Bool.{Bool}
use Rattle.layout.specs.Mem.{Mem}
use Rattle.layout.specs.Sizes.{head}
use Rattle.layout.specs.Meaning.{holds, kinds, ranked}
use Rattle.layout.specs.Follows.{Follows}
use Rattle.layout.specs.Lowest.{TakesLowest}
use Rattle.document.specs.Results.{Outcome}
use Rattle.std.specs.Prelude.{Err, Ok}
use Rattle.document.specs.declared.refusal.Refusal.{Refusal}

-- ranking and leaving it: from memory x to memory y, ranked or not after it
pub record Turns (x : Mem) (wanted : Outcome) (after : Bool) (a : Outcome) (y : Mem) : Type 0 where
  pub answer : a ≡ wanted
  pub follows : Follows y
  pub sizes : head y ≡ head x
  pub mode : a ≡ Ok tt → ranked y ≡ after
  pub refused : (n : Refusal) → a ≡ Err n → y ≡ x
  pub members : (n : ℕ) → holds y n ≡ holds x n
  pub map : (c : ℕ) → kinds y c ≡ kinds x c
  pub takes : TakesLowest x y

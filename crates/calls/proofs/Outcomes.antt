-- What a call that changes an open set does, part by part.
use mathlib.Core.Path.{◌≡◌}
use Prim.Native.Nat.{ℕ}
use mathlib.Core.Bool.{Bool, ◌||◌}
use lib.IntN.{ℤ}
use Rattle.layout.specs.Mem.{Mem}
use Rattle.layout.specs.Sizes.{head, mode_at}
use Rattle.layout.specs.Meaning.{holds, kinds, state_of}
use Rattle.layout.specs.Follows.{Follows}
use Rattle.layout.specs.Lowest.{TakesLowest, TakesRising}
use Rattle.document.specs.Insert.{is_id, map_after}
use Rattle.document.specs.Prepare.{prepare_answer, map_prepared}
use Rattle.calls.specs.Prepare.{chunks_to}
use Rattle.document.specs.Results.{Outcome, Truth}
use Rattle.std.specs.Prelude.{Err, Ok}
use Rattle.document.specs.declared.refusal.Refusal.{Refusal}

-- a call that inserts z, from memory x to memory y, with the answer a that is wanted
pub record Inserts (x : Mem) (z : ℤ) (wanted : Truth) (a : Truth) (y : Mem) : Type 0 where
  pub answer : a ≡ wanted
  pub follows : Follows y
  pub sizes : head y ≡ head x
  pub mode : mode_at y.table ≡ mode_at x.table
  pub refused : (n : Refusal) → a ≡ Err n → y ≡ x
  pub members : (b : Bool) → a ≡ Ok b → (n : ℕ) → holds y n ≡ (holds x n || is_id z n)
  pub map : (b : Bool) → a ≡ Ok b → (c : ℕ) → kinds y c ≡ map_after (state_of x) z b c
  pub takes : TakesLowest x y

pub record Prepares (x : Mem) (z : ℤ) (a : Outcome) (y : Mem) : Type 0 where
  pub answer : a ≡ prepare_answer (state_of x) z
  pub follows : Follows y
  pub sizes : head y ≡ head x
  pub mode : mode_at y.table ≡ mode_at x.table
  pub refused : (n : Refusal) → a ≡ Err n → y ≡ x
  pub members : (n : ℕ) → holds y n ≡ holds x n
  pub map : a ≡ Ok tt → (c : ℕ) → kinds y c ≡ map_prepared (state_of x) z c
  pub takes : TakesRising x y (chunks_to (head x) z)

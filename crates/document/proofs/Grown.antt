-- Chunks that get a new member, on both sides of m; a negative id and a member. Assumes nothing.
use mathlib.Core.Path.{◌≡◌, refl, ap}
use mathlib.Core.Bool.{Bool, true, false, cond}
use Prim.Native.Nat.{ℕ, ◌<◌}
use native.Mathlib.Omega.{arith}
use lib.IntN.{ℤ, pos, negsuc}
use borrow.Author.Tests.{lt-ltb, le-ltb}
use Rattle.document.specs.State.{absent, sparse, dense, State}
use Rattle.document.specs.Insert.{grown, new_answer}
use Rattle.document.specs.Refusals.{is_ranked}
use Rattle.std.specs.Prelude.{Err, Ok}

-- an absent chunk starts sparse; a sparse one stays so below m members and becomes dense at m; a dense one stays
pub grown_absent : (n m : ℕ) → grown absent n m ≡ sparse
grown_absent n m = refl

pub grown_below : (n m : ℕ) → n < m → grown sparse n m ≡ sparse
grown_below n m l = ap (λ (b : Bool). cond b sparse dense) (lt-ltb n m l)

pub grown_full : (m : ℕ) → grown sparse m m ≡ dense
grown_full m = ap (λ (b : Bool). cond b sparse dense) (le-ltb m m (omega arith))

pub grown_dense : (n m : ℕ) → grown dense n m ≡ dense
grown_dense n m = refl

-- 4 before all else; then no for a negative id and for a member
module _ (q : State) where
  pub new_ranked : (z : ℤ) → q.mode ≡ true → new_answer q z ≡ Err is_ranked
  unfolding new_answer
  new_ranked (pos n) e = rw e
  new_ranked (negsuc n) e = rw e

  module _ (e : q.mode ≡ false) where
    pub new_negative : (n : ℕ) → new_answer q (negsuc n) ≡ Ok false
    unfolding new_answer
    new_negative n = rw e

    pub new_member : (n : ℕ) → q.members n ≡ true → new_answer q (pos n) ≡ Ok false
    unfolding new_answer
    new_member n h = rw (e, h)

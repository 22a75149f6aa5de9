-- The union of two sets in members: either first, and a set with itself; and into an empty set. Assumes nothing.
use mathlib.Core.Path.{◌≡◌, refl}
use mathlib.Core.Bool.{Bool, true, false, ◌||◌}
use Prim.Native.Nat.{ℕ}
use Rattle.document.specs.State.{State, empty}
use Rattle.document.specs.Union.{either, union_map, united}
use Rattle.document.specs.declared.sizes.Sizes.{Sizes}
use Rattle.std.specs.Prelude.{Ok}

or_swap : (a b : Bool) → (a || b) ≡ (b || a)
or_swap true true = refl
or_swap true false = refl
or_swap false true = refl
or_swap false false = refl

or_same : (a : Bool) → (a || a) ≡ a
or_same true = refl
or_same false = refl

-- whatever the kinds
pub union_commutes : (q p : State) (n : ℕ) → (united q p (Ok tt)).members n ≡ (united p q (Ok tt)).members n
unfolding either
union_commutes q p n = or_swap (q.members n) (p.members n)

pub union_idempotent : (q : State) (n : ℕ) → (united q q (Ok tt)).members n ≡ q.members n
unfolding either
union_idempotent q n = or_same (q.members n)

-- the same members and the same map
pub union_empty_members : (h : Sizes) (p : State) (n : ℕ) → (united (empty h) p (Ok tt)).members n ≡ p.members n
unfolding either
union_empty_members h p n = refl

pub union_empty_map : (h : Sizes) (p : State) (c : ℕ) → (united (empty h) p (Ok tt)).map c ≡ p.map c
unfolding union_map
union_empty_map h p c = refl

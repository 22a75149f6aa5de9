-- The two passes give document 01's union, and the layout is kept. Assumes nothing.
use mathlib.Core.Path.{◌≡◌, refl, ap}
use mathlib.Core.Bool.{true, false}
use Prim.Native.Nat.{ℕ, ◌/◌, ◌≤◌}
use lib.Dec.{eqb}
use Rattle.document.specs.Sizes.{top}
use Rattle.document.specs.State.{State}
use Rattle.document.specs.Room.{overflows, sparses, denses}
use Rattle.document.specs.Union.{union_map, same_shape, united}
use Rattle.layout.specs.Mem.{Mem}
use Rattle.layout.specs.Sizes.{head}
use Rattle.layout.specs.Meaning.{ranked, state_of}
use Rattle.layout.specs.Follows.{Follows}
use Rattle.unions.specs.Union.{united_by}
use Rattle.unions.proofs.Partly.{Has}
use Rattle.unions.proofs.Passes.{all_there, is_united}
use Rattle.std.specs.Prelude.{Ok}

-- a set is its sizes, its mode and its chunks
has_state : (z : Mem) (q : State) → head z ≡ q.sizes → ranked z ≡ q.mode → ((i : ℕ) → Has z i q) → state_of z ≡ q
has_state z q s m is = λ j. record { sizes = s j; mode = m j; members = λ (n : ℕ). (is (n / top (head z))).members n refl j; map = λ (i : ℕ). (is i).kind j }

pub union_kept : {x y : Mem} → Follows x → Follows y → ranked x ≡ false → same_shape (head x) (head y) ≡ true
    → overflows (head x) (union_map (state_of x) (state_of y)) ≤ (head x).v
    → sparses (head x) (union_map (state_of x) (state_of y)) ≤ (head x).r
    → denses (head x) (union_map (state_of x) (state_of y)) ≤ (head x).p
    → Follows (united_by x y) × (state_of (united_by x y) ≡ united (state_of x) (state_of y) (Ok tt))
union_kept {x} {y} w v mode same over rows pages =
    let z = all_there w mode v same over rows pages in (
      z.follows,
      has_state (united_by x y) (united (state_of x) (state_of y) (Ok tt)) z.sizes (ap (λ (m : ℕ). eqb m 1) z.mode) (is_united w mode v same over rows pages),
    )

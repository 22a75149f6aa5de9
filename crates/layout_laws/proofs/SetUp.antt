-- Set-up by what it is asked: sizes that are out of range, slices that are too short, or an empty open set. Assumes nothing.
use mathlib.Core.Path.{◌≡◌, refl, ap, ◌∙◌}
use mathlib.Core.Bool.{Bool, true, false, cond}
use Rattle.sums.specs.Rules.{Decides}
use Rattle.layout.specs.Mem.{Mem}
use Rattle.document.specs.Sizes.{InRange}
use Rattle.layout.specs.Sizes.{RoomIn}
use Rattle.layout.specs.Tests.{in_range, room_in}
use Rattle.layout.specs.SetUp.{Did, did, fresh, set_up_by}
use Rattle.document.specs.declared.sizes.Sizes.{Sizes}
use Rattle.layout.proofs.Tests.{range_of, room_of}
use Rattle.document.specs.Refusals.{outside_sizes, too_short}
use Rattle.std.specs.Prelude.{Err, Ok}

-- a test of what doesn't hold
refuted : (b : Bool) {P : Type 0} → Decides b P → (P → ⊥) → b ≡ false
refuted true d n = absurd (n (d.sound refl))
refuted false d n = refl

module _ (h : Sizes) (x : Mem) where
  room_tested : Bool → Did
  room_tested b = cond b (did (Ok tt) (fresh h x)) (did (Err too_short) x)

  range_tested : Bool → Did
  range_tested b = cond b (room_tested (room_in h x)) (did (Err outside_sizes) x)

  pub set_up_sizes : (InRange h → ⊥) → set_up_by h x ≡ did (Err outside_sizes) x
  unfolding set_up_by range_tested room_tested
  set_up_sizes n = ap range_tested (refuted (in_range h) (range_of h) n)

  pub set_up_short : InRange h → (RoomIn h x → ⊥) → set_up_by h x ≡ did (Err too_short) x
  unfolding set_up_by range_tested room_tested
  set_up_short z n = ap range_tested ((range_of h).whole z) ∙ ap room_tested (refuted (room_in h x) (room_of h x) n)

  pub set_up_done : InRange h → RoomIn h x → set_up_by h x ≡ did (Ok tt) (fresh h x)
  unfolding set_up_by range_tested room_tested
  set_up_done z r = ap range_tested ((range_of h).whole z) ∙ ap room_tested ((room_of h x).whole r)

-- Set-up: memory after it, and the refusal that is given. Assumes nothing.
use mathlib.Core.Path.{◌≡◌, refl, sym, ◌∙◌, ap, ap₂}
use mathlib.Core.Bool.{Bool, true, false, cond}
use lib.ListN.{length}
use Rattle.std.specs.Prelude.{Err, Ok}
use Rattle.layout.specs.Mem.{Mem}
use Rattle.document.specs.Refusals.{outside_sizes, too_short}
use Rattle.document.specs.Results.{Outcome}
use Rattle.document.specs.Sizes.{InRange}
use Rattle.document.specs.declared.refusal.Refusal.{Refusal}
use Rattle.document.specs.declared.sizes.Sizes.{Sizes}
use Rattle.layout.specs.Sizes.{RoomIn}
use Rattle.layout.specs.Tests.{in_range, room_in}
use Rattle.layout.specs.SetUp.{Did, did, fresh, set_up_by}
use Rattle.layout.proofs.Tests.{range_of, roomy_of}

abbrev chosen : Bool → Bool → Outcome
chosen a b = cond a (cond b (Ok tt) (Err too_short)) (Err outside_sizes)

refused_by : (a b : Bool) (n : Refusal) (x : Mem) (y : Did) → ◌≡◌ {A = Outcome} (Err n) (chosen a b) → did (Err n) x ≡ cond a (cond b y (did (Err too_short) x)) (did (Err outside_sizes) x)
refused_by true true n x y e = cc
refused_by true false n x y e = ap (λ (r : Outcome). did r x) e
refused_by false b n x y e = ap (λ (r : Outcome). did r x) e

none_by : (a b : Bool) → ◌≡◌ {A = Outcome} (Ok tt) (chosen a b) → (a ≡ true) × (b ≡ true)
none_by true true e = (refl, refl)
none_by true false e = cc
none_by false b e = cc

module _ (h : Sizes) (x : Mem) where
  pub refused : (n : Refusal) → ◌≡◌ {A = Outcome} (Err n) (chosen (in_range h) (room_in h x)) → did (Err n) x ≡ set_up_by h x
  unfolding set_up_by
  refused n e = refused_by (in_range h) (room_in h x) n x (did (Ok tt) (fresh h x)) e

  module _ (e : ◌≡◌ {A = Outcome} (Ok tt) (chosen (in_range h) (room_in h x))) where
    pub good : InRange h × RoomIn h x
    good = let g = none_by (in_range h) (room_in h x) e in ((range_of h).sound g.0, (roomy_of h (length x.pages) (length x.rows) (length x.blocks) (length x.table)).sound g.1)

    pub done : (y : Mem) → y ≡ fresh h x → did (Ok tt) y ≡ set_up_by h x
    unfolding set_up_by
    done y f =
        let g = none_by (in_range h) (room_in h x) e in
        ap (did (Ok tt)) f ∙ ap₂ (λ (a b : Bool). cond a (cond b (did (Ok tt) (fresh h x)) (did (Err too_short) x)) (did (Err outside_sizes) x)) (sym g.0) (sym g.1)

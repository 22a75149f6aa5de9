-- A plan that was made, carried out, is the call. Assumes nothing.
use mathlib.Core.Path.{◌≡◌, sym, ap, ap₂, subst, ◌∙◌}
use lib.ListN.{length}
use Rattle.document.specs.Sizes.{InRange}
use Rattle.document.specs.Union.{Join}
use Rattle.document.specs.declared.sizes.Sizes.{Sizes}
use Rattle.layout.specs.Mem.{Mem}
use Rattle.layout.specs.Sizes.{Roomy, head}
use Rattle.unions.specs.Union.{met, left_by, met_if, united_by, union_plan, union_by}
use Rattle.unions.proofs.Joins.{plan_joins}
use Rattle.contracts.specs.Does.{Joins}
use Rattle.contracts.proofs.Joins.{joins}
use Rattle.merging.specs.Ready.{Sound}
use Rattle.std.specs.Prelude.{Err, Ok}
use Rattle.document.specs.declared.refusal.Refusal.{Refusal}

module _ (x y : Mem) (j : Join) where
  pub plan_refused : (n : Refusal) → Err n ≡ union_plan x y j → Joins x y j (Err n) x y
  unfolding union_by
  plan_refused n told = joins x y j (ap (met_if x y j) told)

  module _ (told : Ok tt ≡ union_plan x y j) where
    pub plan_sound : Sound x.pages x.rows x.table y.pages y.rows y.table
    plan_sound = (x.blocks, y.blocks, plan_joins x y j (sym told))

    -- the source's sizes, and that it has room for them
    pub source_room : (g : Sizes) → g ≡ head y → InRange g × Roomy g (length y.pages) (length y.rows) (length y.blocks) (length y.table)
    source_room g e =
        let w = (plan_joins x y j (sym told)).there in
        (subst InRange (sym e) w.sizes, subst (λ (k : Sizes). Roomy k (length y.pages) (length y.rows) (length y.blocks) (length y.table)) (sym e) w.room)

    pub plan_done : (z v : Mem) → z ≡ united_by x y → v ≡ left_by y j → Joins x y j (Ok tt) z v
    unfolding union_by
    plan_done z v ez ev = joins x y j (ap₂ (met (Ok tt)) ez ev ∙ ap (met_if x y j) told)

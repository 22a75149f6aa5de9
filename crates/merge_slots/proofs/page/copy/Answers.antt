-- The page as a part of its pool, copied whole. Assumes nothing.
use mathlib.Core.Path.{◌∙◌}
use mathlib.Core.List.{List}
use Prim.Native.Nat.{ℕ, ◌*◌}
use Rattle.layout.specs.Sizes.{wide}
use Rattle.layout.specs.Places.{page_part}
use Rattle.steps.proofs.Lent.{put_lent}
use Rattle.merge_slots.proofs.page.copy.Goals as goal

pub returns : goal.returns
returns c =
    let g = c.args in
    put_lent g.pages.now c.page_at-b.result c.pow2.result (g.p * wide g.h) (wide g.h)
    c.page_at-b.ensures c.pow2.ensures
    (λ (u : List ℕ). page_part g.g g.spages.now g.i) _ (c.copy.ensures ∙ c.part.ensures)

-- The page as a part of its pool, with the words of a page of the other. Assumes nothing.
use mathlib.Core.Path.{ap, ◌∙◌}
use mathlib.Core.List.{List}
use Prim.Native.Nat.{ℕ, ◌*◌}
use Rattle.dense.specs.Bits.{or_words}
use Rattle.layout.specs.Sizes.{wide}
use Rattle.layout.specs.Places.{page_part}
use Rattle.steps.proofs.Lent.{put_lent}
use Rattle.merge_slots.proofs.page.unite.Goals as goal

pub returns : goal.returns
returns c =
    let g = c.args in
    put_lent g.pages.now c.page_at-b.result c.pow2.result (g.p * wide g.h) (wide g.h)
    c.page_at-b.ensures c.pow2.ensures
    (λ (u : List ℕ). or_words u (page_part g.g g.spages.now g.i)) _ (c.or_into.ensures ∙ ap (or_words _) c.part.ensures)

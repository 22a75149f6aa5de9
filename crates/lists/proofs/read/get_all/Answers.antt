-- By what the walk found.
use mathlib.Core.Path.{◌≡◌, refl, ◌∙◌}
use mir.Syntax.{w64}
use mir.Val.{of_z, to_z}
use borrow.Author.Rules.{rules}
use Rattle.numbers.proofs.Signs.{hop}
use Rattle.layout.specs.Mem.{mem}
use Rattle.lists.specs.Ways.{Judged}
use Rattle.lists.specs.Lists.{get_all, one_by}
use Rattle.lists.proofs.Outcomes.{answers_bad, walks_well, answers_get, answers_all}
use Rattle.lists.proofs.read.get_all.Goals as goal

pub returns-then-not-walk : goal.returns-then-not-walk
returns-then-not-walk c =
    let a = c.args in
    let x = mem a.pages.now a.rows.now a.blocks.now a.table.now in
    answers_all x get_all a.ids.now a.answers.now a.answers.now _ (answers_bad x _ c.walk.ensures get_all c.if-not-walk.true) refl

pub answer_each-requires : goal.answer_each-requires
answer_each-requires c =
    let a = c.args in
    let x = mem a.pages.now a.rows.now a.blocks.now a.table.now in
    let j : Judged x c.read-h.result = record { walks = walks_well x _ c.walk.ensures c.if-not-walk.false; sizes = c.read-h.ensures } in
    search rules

pub returns : goal.returns
returns c =
    let a = c.args in
    let x = mem a.pages.now a.rows.now a.blocks.now a.table.now in
    answers_all x get_all a.ids.now a.answers.now _ _ (answers_get x _ c.walk.ensures c.if-not-walk.false) (c.answer_each.ensures (one_by x get_all) (λ z b f p. let q : b ≡ one_by x get_all (to_z w64 (of_z w64 z)) = search rules in q ∙ hop (one_by x get_all) z f))

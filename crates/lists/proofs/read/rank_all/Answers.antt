-- By what was judged.
use mathlib.Core.Path.{◌≡◌, refl, sym, ◌∙◌}
use Rattle.std.proofs.lemmas.Result.{err_from_is_err_and}
use mir.Syntax.{w64}
use mir.Val.{of_z, to_z}
use borrow.Author.Rules.{rules}
use Rattle.numbers.proofs.Signs.{hop}
use Rattle.layout.specs.Mem.{mem}
use Rattle.lists.specs.Ways.{Judged}
use Rattle.lists.specs.Lists.{rank_all, one_by}
use Rattle.lists.proofs.Outcomes.{judged, answers_all}
use Rattle.lists.proofs.read.rank_all.Goals as goal

pub returns-in_err-judge : goal.returns-in_err-judge
returns-in_err-judge c =
    let a = c.args in
    let x = mem a.pages.now a.rows.now a.blocks.now a.table.now in
    let p = err_from_is_err_and c.from_residual.result c.from_residual.ensures.1 in
    rw (p.1, p.2) (answers_all x rank_all a.ids.now a.answers.now a.answers.now _ c.in_err-judge.ensures refl)

pub answer_each-requires : goal.answer_each-requires
answer_each-requires c =
    let a = c.args in
    let x = mem a.pages.now a.rows.now a.blocks.now a.table.now in
    let w = judged x (sym c.in_ok-judge.ensures) in
    let j : Judged x c.read-h.result = record { walks = w.0; sizes = c.read-h.ensures } in
    search rules

pub returns : goal.returns
returns c =
    let a = c.args in
    let x = mem a.pages.now a.rows.now a.blocks.now a.table.now in
    answers_all x rank_all a.ids.now a.answers.now _ _ c.in_ok-judge.ensures (c.answer_each.ensures (one_by x rank_all) (λ z b f p. let q : b ≡ one_by x rank_all (to_z w64 (of_z w64 z)) = search rules in q ∙ hop (one_by x rank_all) z f))

-- The form decides.
use mathlib.Core.Path.{refl, sym, ap, subst, ◌∙◌}
use Rattle.std.proofs.lemmas.Result.{err_from_is_err_and}
use Rattle.std.specs.Prelude.{Ok}
use Rattle.document.specs.declared.sizes.Sizes.{Sizes}
use Rattle.layout.specs.Mem.{mem}
use Rattle.layout.specs.SetUp.{did}
use Rattle.layout.specs.Tests.{Walked}
use Rattle.ranks.specs.Form.{to_ranked}
use Rattle.ranked.proofs.Modes.{form_walked}
use Rattle.ranked.proofs.Forms.{ranked_up}
use Rattle.ranked.proofs.form.into_ranked.Goals as goal

pub count_all-requires : goal.count_all-requires
count_all-requires c = let a = c.args in let x = mem a.pages.now a.rows.now a.blocks.now a.table.now in subst (Walked x) (sym c.read.ensures) (form_walked x _ c.in_ok-form_of.ensures)

pub returns-in_err-form_of : goal.returns-in_err-form_of
returns-in_err-form_of c =
    let a = c.args in
    let p = err_from_is_err_and c.from_residual.result c.from_residual.ensures.1 in
    rw (p.1, p.2) (ranked_up (mem a.pages.now a.rows.now a.blocks.now a.table.now) _ c.in_err-form_of.ensures _ _ refl)

pub returns-in-Ranked : goal.returns-in-Ranked
returns-in-Ranked c = let a = c.args in ranked_up (mem a.pages.now a.rows.now a.blocks.now a.table.now) _ c.in_ok-form_of.ensures _ _ (rw c.in-Ranked.is refl)

pub returns-in-Open : goal.returns-in-Open
returns-in-Open c =
    let a = c.args in
    let x = mem a.pages.now a.rows.now a.blocks.now a.table.now in
    ranked_up x _ c.in_ok-form_of.ensures _ _ (rw c.in-Open.is (ap (did (Ok tt)) (c.count_all.ensures ∙ ap (λ (h : Sizes). to_ranked h x) c.read.ensures)))

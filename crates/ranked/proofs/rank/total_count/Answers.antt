-- The form decides.
use mathlib.Core.Path.{refl}
use Rattle.std.proofs.lemmas.Result.{err_from_is_err_and}
use Rattle.layout.specs.Mem.{mem}
use Rattle.ranked.proofs.Answers.{total_of}
use Rattle.ranked.proofs.rank.total_count.Goals as goal

pub returns-in_err-form_in : goal.returns-in_err-form_in
returns-in_err-form_in c =
    let a = c.args in
    let p = err_from_is_err_and c.from_residual.result c.from_residual.ensures.1 in
    rw (p.1, p.2) (total_of (mem a.pages.now a.rows.now a.blocks.now a.table.now) _ _ c.in_err-form_in.ensures refl)

pub returns-in-Open : goal.returns-in-Open
returns-in-Open c = let a = c.args in total_of (mem a.pages.now a.rows.now a.blocks.now a.table.now) _ _ c.in_ok-form_in.ensures (rw c.in-Open.is refl)

pub returns-in-Ranked : goal.returns-in-Ranked
returns-in-Ranked c = let a = c.args in total_of (mem a.pages.now a.rows.now a.blocks.now a.table.now) _ _ c.in_ok-form_in.ensures (rw c.in-Ranked.is (rw c.total.ensures refl))

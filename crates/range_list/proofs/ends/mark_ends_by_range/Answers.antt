-- Refused by the walk, or every mark set by the range test. Assumes nothing.
use borrow.Author.Rules.{rules}
use Rattle.std.proofs.lemmas.Result.{err_from_is_err_and}
use Rattle.layout.specs.Mem.{mem}
use Rattle.range_list.specs.Marks.{hit_by}
use Rattle.range_list.proofs.Outcomes.{ends_refused, ends_set}
use Rattle.range_list.proofs.ends.mark_ends_by_range.Goals as goal

pub returns-in_err-walked : goal.returns-in_err-walked
returns-in_err-walked c =
    let a = c.args in
    let p = err_from_is_err_and c.from_residual.result c.from_residual.ensures.1 in
    rw (p.1, p.2) (ends_refused (mem a.pages.now a.rows.now a.blocks.now a.table.now) a.lows.now a.highs.now a.marks.now _ c.in_err-walked.ensures)

pub returns : goal.returns
returns c =
    let a = c.args in
    let x = mem a.pages.now a.rows.now a.blocks.now a.table.now in
    ends_set x a.lows.now a.highs.now a.marks.now c.in_ok-walked.ensures _ (c.mark_by.ensures (hit_by x) (λ lo hi b u v p. search rules))

-- The form, then where the id lies.
use mathlib.Core.Path.{refl}
use native.Mathlib.Omega.{arith}
use Rattle.std.proofs.lemmas.Result.{err_from_is_err_and}
use Rattle.layout.specs.Mem.{mem}
use Rattle.calls.proofs.Shifts.{chunk_small}
use Rattle.ranked.proofs.Modes.{form_shift}
use Rattle.ranked.proofs.Answers.{rank_if_refused, rank_if_open, rank_if_ranked}
use Rattle.ranked.proofs.rank.rank_if_set.Goals as goal

pub returns-in_err-form_in : goal.returns-in_err-form_in
returns-in_err-form_in c =
    let a = c.args in
    let p = err_from_is_err_and c.from_residual.result c.from_residual.ensures.1 in
    rw (p.1, p.2) (rank_if_refused (mem a.pages.now a.rows.now a.blocks.now a.table.now) a.id _ c.in_err-form_in.ensures)

pub returns-in-Open : goal.returns-in-Open
returns-in-Open c = let a = c.args in rank_if_open (mem a.pages.now a.rows.now a.blocks.now a.table.now) a.id _ c.in_ok-form_in.ensures c.in-Open.is

pub split-requires : goal.split-requires
split-requires c = let s = form_shift c.args.table.now _ c.in_ok-form_in.ensures in omega arith

pub rank_if_at-requires : goal.rank_if_at-requires
rank_if_at-requires c =
    let s = form_shift c.args.table.now _ c.in_ok-form_in.ensures in
    let k = chunk_small _ c.args.id c.ranges.id _ c.in-Some.ensures c.in-Some.c c.in-Some.o (record { low = omega arith; high = omega arith }) refl in
    (omega arith, omega arith, c.shift-s.ensures, k.0, k.1)

pub returns-in_default : goal.returns-in_default
returns-in_default c =
    let a = c.args in rank_if_ranked (mem a.pages.now a.rows.now a.blocks.now a.table.now) a.id c.ranges.id _ c.in_ok-form_in.ensures c.in-Ranked.is _ c.shift-s.ensures _ c.in_default.ensures _ refl

pub returns-in-Some : goal.returns-in-Some
returns-in-Some c =
    let a = c.args in rank_if_ranked (mem a.pages.now a.rows.now a.blocks.now a.table.now) a.id c.ranges.id _ c.in_ok-form_in.ensures c.in-Ranked.is _ c.shift-s.ensures _ c.in-Some.ensures _ c.rank_if_at.ensures

-- By the part that the entry names: nothing, a length of 0, no bit up to the last. Assumes nothing.
use native.Mathlib.Omega.{arith}
use lib.Dec.{eqb}
use Rattle.std.proofs.lemmas.Result.{err_from_is_err_and}
use Rattle.layout.specs.Mem.{mem}
use Rattle.counts.proofs.Runs.{page_here, part_is, part_err, page_none}
use Rattle.counts.proofs.parts.is_empty_at.Goals as goal

pub returns-in_err-spot_at : goal.returns-in_err-spot_at
returns-in_err-spot_at c =
    let a = c.args in
    let p = err_from_is_err_and c.from_residual.result c.from_residual.ensures.1 in
    rw (p.1, p.2) (part_err (mem a.pages.now a.rows.now a.blocks.now a.table.now) a.e (λ k. eqb k 0) _ c.in_err-spot_at.ensures)

pub overflow_add-b : goal.overflow_add-b
overflow_add-b c =
    let a = c.args in
    let p = page_here (mem a.pages.now a.rows.now a.blocks.now a.table.now) _ c.in-Page.a c.in-Page.n c.requires.0 (rw c.in-Page.is at c.in_ok-spot_at.ensures) in
    omega arith

pub offset_bounds-pages-a : goal.offset_bounds-pages-a
offset_bounds-pages-a c =
    let a = c.args in
    let p = page_here (mem a.pages.now a.rows.now a.blocks.now a.table.now) _ c.in-Page.a c.in-Page.n c.requires.0 (rw c.in-Page.is at c.in_ok-spot_at.ensures) in
    omega arith

pub slice_bounds-any_in-end : goal.slice_bounds-any_in-end
slice_bounds-any_in-end c =
    let a = c.args in
    let p = page_here (mem a.pages.now a.rows.now a.blocks.now a.table.now) _ c.in-Page.a c.in-Page.n c.requires.0 (rw c.in-Page.is at c.in_ok-spot_at.ensures) in
    omega arith

pub overflow_mul-n : goal.overflow_mul-n
overflow_mul-n c =
    let a = c.args in
    let p = page_here (mem a.pages.now a.rows.now a.blocks.now a.table.now) _ c.in-Page.a c.in-Page.n c.requires.0 (rw c.in-Page.is at c.in_ok-spot_at.ensures) in
    omega arith

pub overflow_sub-n : goal.overflow_sub-n
overflow_sub-n c =
    let a = c.args in
    let p = page_here (mem a.pages.now a.rows.now a.blocks.now a.table.now) _ c.in-Page.a c.in-Page.n c.requires.0 (rw c.in-Page.is at c.in_ok-spot_at.ensures) in
    omega arith

pub any_in-requires : goal.any_in-requires
any_in-requires c =
    let a = c.args in
    let p = page_here (mem a.pages.now a.rows.now a.blocks.now a.table.now) _ c.in-Page.a c.in-Page.n c.requires.0 (rw c.in-Page.is at c.in_ok-spot_at.ensures) in
    omega arith

pub returns-in-Nowhere : goal.returns-in-Nowhere
returns-in-Nowhere c =
    let a = c.args in
    part_is (mem a.pages.now a.rows.now a.blocks.now a.table.now) a.e (λ k. eqb k 0) _ (rw c.in-Nowhere.is at c.in_ok-spot_at.ensures)

pub returns-in-Row : goal.returns-in-Row
returns-in-Row c =
    let a = c.args in
    part_is (mem a.pages.now a.rows.now a.blocks.now a.table.now) a.e (λ k. eqb k 0) _ (rw c.in-Row.is at c.in_ok-spot_at.ensures)

pub returns-in-Page : goal.returns-in-Page
returns-in-Page c =
    let a = c.args in
    let x = mem a.pages.now a.rows.now a.blocks.now a.table.now in
    let e = rw c.in-Page.is at c.in_ok-spot_at.ensures in
    page_none x a.e _ _ (page_here x _ _ _ c.requires.0 e) e _ c.any_in.ensures

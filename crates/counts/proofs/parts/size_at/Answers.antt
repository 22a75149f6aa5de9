-- By the part that the entry names: nothing, a length, a count of bits. Assumes nothing.
use native.Mathlib.Omega.{arith}
use Rattle.std.proofs.lemmas.Result.{err_from_is_err_and}
use Rattle.layout.specs.Mem.{mem}
use Rattle.counts.proofs.Runs.{page_here, part_is, part_err, page_size}
use Rattle.counts.proofs.parts.size_at.Goals as goal

pub returns-in_err-spot_at : goal.returns-in_err-spot_at
returns-in_err-spot_at c =
    let a = c.args in
    let p = err_from_is_err_and c.from_residual.result c.from_residual.ensures.1 in
    rw (p.1, p.2) (part_err (mem a.pages.now a.rows.now a.blocks.now a.table.now) a.e (λ k. k) _ c.in_err-spot_at.ensures)

pub overflow_add-b : goal.overflow_add-b
overflow_add-b c =
    let a = c.args in
    let p = page_here (mem a.pages.now a.rows.now a.blocks.now a.table.now) _ c.in-Page.a c.in-Page.n c.requires.0 (rw c.in-Page.is at c.in_ok-spot_at.ensures) in
    omega arith

pub offset_bounds-pages-a : goal.offset_bounds-pages-a
offset_bounds-pages-a c =
    let a = c.args in
    let p = page_here (mem a.pages.now a.rows.now a.blocks.now a.table.now) _ c.in-Page.a c.in-Page.n c.requires.0 (rw c.in-Page.is at c.in_ok-spot_at.ensures) in
    omega arith

pub slice_bounds-count-end : goal.slice_bounds-count-end
slice_bounds-count-end c =
    let a = c.args in
    let p = page_here (mem a.pages.now a.rows.now a.blocks.now a.table.now) _ c.in-Page.a c.in-Page.n c.requires.0 (rw c.in-Page.is at c.in_ok-spot_at.ensures) in
    omega arith

pub count-requires : goal.count-requires
count-requires c =
    let a = c.args in
    let p = page_here (mem a.pages.now a.rows.now a.blocks.now a.table.now) _ c.in-Page.a c.in-Page.n c.requires.0 (rw c.in-Page.is at c.in_ok-spot_at.ensures) in
    omega arith

pub returns-in-Nowhere : goal.returns-in-Nowhere
returns-in-Nowhere c =
    let a = c.args in
    part_is (mem a.pages.now a.rows.now a.blocks.now a.table.now) a.e (λ k. k) _ (rw c.in-Nowhere.is at c.in_ok-spot_at.ensures)

pub returns-in-Row : goal.returns-in-Row
returns-in-Row c =
    let a = c.args in
    part_is (mem a.pages.now a.rows.now a.blocks.now a.table.now) a.e (λ k. k) _ (rw c.in-Row.is at c.in_ok-spot_at.ensures)

pub returns-in-Page : goal.returns-in-Page
returns-in-Page c =
    let a = c.args in
    let x = mem a.pages.now a.rows.now a.blocks.now a.table.now in
    let e = rw c.in-Page.is at c.in_ok-spot_at.ensures in
    page_size x a.e _ _ (page_here x _ _ _ c.requires.0 e) e _ c.count.ensures

-- Nothing is in no part; a row's offsets are listed, or a page's bits. Assumes nothing.
use mathlib.Core.Path.{ap}
use native.Mathlib.Omega.{arith}
use Rattle.layout.specs.Mem.{mem}
use Rattle.std.proofs.lemmas.Result.{err_from_is_err_and}
use Rattle.calls.specs.Iteration.{filled_at}
use Rattle.entries.proofs.Parts.{part_refused, row_lent, page_lent}
use Rattle.iteration.proofs.Fills.{row_fits}
use Rattle.iteration.proofs.listing.fill_at.Goals as goal

pub returns-in_err-spot_of : goal.returns-in_err-spot_of
returns-in_err-spot_of c =
    let a = c.args in
    let x = mem a.pages.now a.rows.now a.blocks.now a.table.now in
    let e = c.in_err-spot_of.ensures in
    let p = err_from_is_err_and c.from_residual.result c.from_residual.ensures.1 in
    rw (p.1, p.2) (part_refused x a.w _ e, ap (filled_at x a.base a.from a.out.now a.k) e)

pub overflow_add-j : goal.overflow_add-j
overflow_add-j c =
    let a = c.args in
    let r = row_lent (mem a.pages.now a.rows.now a.blocks.now a.table.now) _ _ _ _ (rw c.in-Row.is at c.in_ok-spot_of.ensures) in
    omega arith

pub offset_bounds-rows-i : goal.offset_bounds-rows-i
offset_bounds-rows-i c =
    let a = c.args in
    let r = row_lent (mem a.pages.now a.rows.now a.blocks.now a.table.now) _ _ _ _ (rw c.in-Row.is at c.in_ok-spot_of.ensures) in
    omega arith

pub slice_bounds-ids-end : goal.slice_bounds-ids-end
slice_bounds-ids-end c =
    let a = c.args in
    let r = row_lent (mem a.pages.now a.rows.now a.blocks.now a.table.now) _ _ _ _ (rw c.in-Row.is at c.in_ok-spot_of.ensures) in
    omega arith

pub ids-requires : goal.ids-requires
ids-requires c =
    let a = c.args in
    let r = row_lent (mem a.pages.now a.rows.now a.blocks.now a.table.now) _ _ _ _ (rw c.in-Row.is at c.in_ok-spot_of.ensures) in
    (r.members, omega (arith, c.shift-s.ensures), row_fits a.base c.shift-s.ensures c.requires.2, c.requires.4)

pub overflow_add-j-in-Page : goal.overflow_add-j-in-Page
overflow_add-j-in-Page c =
    let a = c.args in
    let p = page_lent (mem a.pages.now a.rows.now a.blocks.now a.table.now) _ _ _ c.requires.0 c.requires.1 (rw c.in-Page.is at c.in_ok-spot_of.ensures) in
    omega arith

pub offset_bounds-pages-i : goal.offset_bounds-pages-i
offset_bounds-pages-i c =
    let a = c.args in
    let p = page_lent (mem a.pages.now a.rows.now a.blocks.now a.table.now) _ _ _ c.requires.0 c.requires.1 (rw c.in-Page.is at c.in_ok-spot_of.ensures) in
    omega arith

pub slice_bounds-ids-end-in-Page : goal.slice_bounds-ids-end-in-Page
slice_bounds-ids-end-in-Page c =
    let a = c.args in
    let p = page_lent (mem a.pages.now a.rows.now a.blocks.now a.table.now) _ _ _ c.requires.0 c.requires.1 (rw c.in-Page.is at c.in_ok-spot_of.ensures) in
    omega arith

pub ids-requires-in-Page : goal.ids-requires-in-Page
ids-requires-in-Page c =
    let a = c.args in
    let p = page_lent (mem a.pages.now a.rows.now a.blocks.now a.table.now) _ _ _ c.requires.0 c.requires.1 (rw c.in-Page.is at c.in_ok-spot_of.ensures) in
    (c.requires.4, omega arith)

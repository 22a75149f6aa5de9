-- Nothing is in no part; a row is searched, bits are looked through. Assumes nothing.
use native.Mathlib.Omega.{arith}
use Rattle.layout.specs.Mem.{mem}
use Rattle.entries.proofs.Parts.{row_lent, page_lent}
use Rattle.scan.proofs.range.any_at.Goals as goal

pub overflow_add-j : goal.overflow_add-j
overflow_add-j c =
    let a = c.args in
    let r = row_lent (mem a.pages.now a.rows.now a.blocks.now a.table.now) _ _ _ _ (rw c.in-Row.is at c.in_ok-spot_of.ensures) in
    omega arith

pub offset_bounds-rows-i : goal.offset_bounds-rows-i
offset_bounds-rows-i c =
    let a = c.args in
    let r = row_lent (mem a.pages.now a.rows.now a.blocks.now a.table.now) _ _ _ _ (rw c.in-Row.is at c.in_ok-spot_of.ensures) in
    omega arith

pub slice_bounds-any_in-end : goal.slice_bounds-any_in-end
slice_bounds-any_in-end c =
    let a = c.args in
    let r = row_lent (mem a.pages.now a.rows.now a.blocks.now a.table.now) _ _ _ _ (rw c.in-Row.is at c.in_ok-spot_of.ensures) in
    omega arith

pub any_in-requires : goal.any_in-requires
any_in-requires c =
    let a = c.args in
    let r = row_lent (mem a.pages.now a.rows.now a.blocks.now a.table.now) _ _ _ _ (rw c.in-Row.is at c.in_ok-spot_of.ensures) in
    omega arith

pub overflow_add-j-in-Page : goal.overflow_add-j-in-Page
overflow_add-j-in-Page c =
    let a = c.args in
    let p = page_lent (mem a.pages.now a.rows.now a.blocks.now a.table.now) _ _ _ c.requires.0 c.requires.1 (rw c.in-Page.is at c.in_ok-spot_of.ensures) in
    omega arith

pub offset_bounds-pages-i : goal.offset_bounds-pages-i
offset_bounds-pages-i c =
    let a = c.args in
    let p = page_lent (mem a.pages.now a.rows.now a.blocks.now a.table.now) _ _ _ c.requires.0 c.requires.1 (rw c.in-Page.is at c.in_ok-spot_of.ensures) in
    omega arith

pub slice_bounds-any_in-end-in-Page : goal.slice_bounds-any_in-end-in-Page
slice_bounds-any_in-end-in-Page c =
    let a = c.args in
    let p = page_lent (mem a.pages.now a.rows.now a.blocks.now a.table.now) _ _ _ c.requires.0 c.requires.1 (rw c.in-Page.is at c.in_ok-spot_of.ensures) in
    omega arith

pub any_in-requires-in-Page : goal.any_in-requires-in-Page
any_in-requires-in-Page c =
    let a = c.args in
    let p = page_lent (mem a.pages.now a.rows.now a.blocks.now a.table.now) _ _ _ c.requires.0 c.requires.1 (rw c.in-Page.is at c.in_ok-spot_of.ensures) in
    omega arith

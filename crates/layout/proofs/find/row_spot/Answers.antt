-- Each way through is one of the laws on a row. Assumes nothing.
use native.Mathlib.Omega.{arith}
use Rattle.layout.proofs.Spots.{row_no, row_small, row_sum, row_out, row_there}
use Rattle.std.proofs.lemmas.Bool.{not_from_false, not_from_true}
use Rattle.layout.proofs.find.row_spot.Goals as goal

pub returns-then-not-r-rows : goal.returns-then-not-r-rows
returns-then-not-r-rows c =
    let a = c.args in
    row_no a.table.now a.rows a.r a.l _ _ c.row_size-m.ensures c.rows.ensures (not_from_false _ c.if-not-r-rows.true)

pub times-a-requires : goal.times-a-requires
times-a-requires c =
    let a = c.args in
    let s = row_small a.table.now a.rows a.r a.l _ _ c.row_size-m.ensures c.rows.ensures (not_from_true _ c.if-not-r-rows.false) in
    (c.requires, omega arith)

pub overflow_add-a : goal.overflow_add-a
overflow_add-a c =
    let a = c.args in
    row_sum a.table.now a.rows a.r a.l _ _ c.row_size-m.ensures c.rows.ensures
    (not_from_true _ c.if-not-r-rows.false) _ c.times-a.ensures c.requires

pub returns-then-rows-a : goal.returns-then-rows-a
returns-then-rows-a c =
    let a = c.args in
    row_out a.table.now a.rows a.r a.l _ _ c.row_size-m.ensures c.rows.ensures
    (not_from_true _ c.if-not-r-rows.false) _ c.times-a.ensures c.if-rows-a.true

pub returns : goal.returns
returns c =
    let a = c.args in
    row_there a.table.now a.rows a.r a.l _ _ c.row_size-m.ensures c.rows.ensures
    (not_from_true _ c.if-not-r-rows.false) _ c.times-a.ensures c.if-rows-a.false

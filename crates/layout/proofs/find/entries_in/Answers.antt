-- Sizes first, so that no sum wraps; then the length. Assumes nothing.
use native.Mathlib.Omega.{arith}
use Rattle.layout.proofs.Finds.{entries_no, entries_rest, entries_small}
use Rattle.std.proofs.lemmas.Bool.{not_from_false, not_from_true}
use Rattle.layout.proofs.find.entries_in.Goals as goal

pub returns-then-not-d-n : goal.returns-then-not-d-n
returns-then-not-d-n c = let a = c.args in entries_no a.table.now a.d _ c.over_count-n.ensures (not_from_false _ c.if-not-d-n.true)

pub overflow_mul-result : goal.overflow_mul-result
overflow_mul-result c =
    omega (arith, (let a = c.args in entries_small a.table.now a.d _ c.over_count-n.ensures (not_from_true _ c.if-not-d-n.false)))

pub overflow_add-result : goal.overflow_add-result
overflow_add-result c =
    omega (arith, (let a = c.args in entries_small a.table.now a.d _ c.over_count-n.ensures (not_from_true _ c.if-not-d-n.false)))

pub overflow_mul-result-2 : goal.overflow_mul-result-2
overflow_mul-result-2 c =
    omega (arith, (let a = c.args in entries_small a.table.now a.d _ c.over_count-n.ensures (not_from_true _ c.if-not-d-n.false)))

pub overflow_add-result-2 : goal.overflow_add-result-2
overflow_add-result-2 c =
    omega (arith, (let a = c.args in entries_small a.table.now a.d _ c.over_count-n.ensures (not_from_true _ c.if-not-d-n.false)))

pub returns : goal.returns
returns c =
    let a = c.args in
    entries_rest a.table.now a.d _ c.over_count-n.ensures (not_from_true _ c.if-not-d-n.false) _ c.overflow.ensures

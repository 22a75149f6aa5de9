-- A size that is not allowed is refused; then by where the id lies. Assumes nothing.
use mathlib.Core.Path.{refl}
use Rattle.std.proofs.lemmas.Result.{err_from_is_err_and}
use Rattle.layout.specs.Mem.{mem}
use Rattle.calls.proofs.Shifts.{chunk_small}
use Rattle.idset.proofs.Gets.{shift_is, allowed, get_refused, get_at}
use Rattle.idset.proofs.read.get.Goals as goal

pub returns-in_err-s : goal.returns-in_err-s
returns-in_err-s c =
    let a = c.args in
    let p = err_from_is_err_and c.from_residual.result c.from_residual.ensures.1 in
    rw (p.1, p.2) (get_refused (mem a.pages.now a.rows.now a.blocks.now a.table.now) a.id _ c.in_err-s.ensures)

pub has-requires : goal.has-requires
has-requires c =
    let a = c.args in
    let x = mem a.pages.now a.rows.now a.blocks.now a.table.now in
    let s = allowed x _ c.in_ok-s.ensures in
    let k = chunk_small _ a.id c.ranges.id _ (c.in-Some.ensures) c.in-Some.c c.in-Some.o s refl in
    (s.low, s.high, shift_is x _ c.in_ok-s.ensures, k.0, k.1)

pub returns-in-None : goal.returns-in-None
returns-in-None c =
    let a = c.args in
    get_at (mem a.pages.now a.rows.now a.blocks.now a.table.now) a.id c.ranges.id _ c.in_ok-s.ensures _ c.in-None.ensures

pub returns-in-Some : goal.returns-in-Some
returns-in-Some c =
    let a = c.args in
    rw c.has.ensures (get_at (mem a.pages.now a.rows.now a.blocks.now a.table.now) a.id c.ranges.id _ c.in_ok-s.ensures _ c.in-Some.ensures)

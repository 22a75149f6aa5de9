-- A size that is not allowed is refused; then a quotient. Assumes nothing.
use Rattle.std.proofs.lemmas.Result.{err_from_is_err_and}
use Rattle.layout.specs.Mem.{mem}
use Rattle.idset.proofs.Gets.{chunk_refused, chunk_at}
use Rattle.idset.proofs.read.chunk_of.Goals as goal

pub returns-in_err-s : goal.returns-in_err-s
returns-in_err-s c =
    let a = c.args in
    let p = err_from_is_err_and c.from_residual.result c.from_residual.ensures.1 in
    rw (p.1, p.2) (chunk_refused (mem a.pages.now a.rows.now a.blocks.now a.table.now) a.id _ c.in_err-s.ensures)

pub returns : goal.returns
returns c =
    let a = c.args in
    chunk_at (mem a.pages.now a.rows.now a.blocks.now a.table.now) a.id c.ranges.id _ c.in_ok-s.ensures _ c.chunk_of.ensures

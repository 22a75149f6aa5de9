-- As `set_if_new`, without whether the id was new. Assumes nothing.
use mathlib.Core.Path.{◌≡◌, refl, sym, ap}
use Rattle.std.proofs.lemmas.Result.{err_from_is_err_and}
use Rattle.document.specs.Insert.{done}
use Rattle.layout.specs.Mem.{mem}
use Rattle.inserts.proofs.Promises.{sets}
use Rattle.inserts.proofs.insert.set.Goals as goal

pub returns-in-Some : goal.returns-in-Some
returns-in-Some c = sets _ c.args.id c.ranges.id _ _ _ refl c.in-Some.ensures.0

pub returns-in_err-anywhere-in-None : goal.returns-in_err-anywhere-in-None
returns-in_err-anywhere-in-None c =
    let p = err_from_is_err_and c.from_residual.result c.from_residual.ensures.1 in
    let d : c.from_residual.result ≡ done c.anywhere.result = rw (p.1, p.2) (ap done (sym c.in_err-anywhere-in-None.was)) in
    let y = mem c.anywhere.new.pages c.anywhere.new.rows c.args.blocks.now c.anywhere.new.table in
    sets _ c.args.id c.ranges.id c.from_residual.result c.anywhere.result y d (rw c.in-None.ensures at c.anywhere.ensures)

pub returns-in_ok-anywhere-in-None : goal.returns-in_ok-anywhere-in-None
returns-in_ok-anywhere-in-None c =
    sets _ c.args.id c.ranges.id _ _ _ (ap done (sym c.in_ok-anywhere-in-None.was)) (rw c.in-None.ensures at c.anywhere.ensures)

-- The short way's answer, or the whole way's on memory that the short way left alone. Assumes nothing.
use Rattle.inserts.proofs.Promises.{sets_if_new}
use Rattle.inserts.proofs.insert.set_if_new.Goals as goal

pub returns-in-Some : goal.returns-in-Some
returns-in-Some c = sets_if_new _ c.args.id c.ranges.id _ _ c.in-Some.ensures.0

pub returns-in-None : goal.returns-in-None
returns-in-None c = sets_if_new _ c.args.id c.ranges.id _ _ (rw c.in-None.ensures at c.anywhere.ensures)

-- The short way's answer, or the whole way's on memory that the short way left alone. Assumes nothing.
use Rattle.inserts.proofs.Promises.{sets_prepared}
use Rattle.inserts.proofs.insert.set_prepared.Goals as goal

pub returns-in-Some : goal.returns-in-Some
returns-in-Some c = sets_prepared _ c.args.id c.ranges.id _ _ c.in-Some.ensures.1

pub returns-in-None : goal.returns-in-None
returns-in-None c = sets_prepared _ c.args.id c.ranges.id _ _ (rw c.in-None.ensures at c.prepared.ensures)

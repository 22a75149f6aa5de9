-- The short way's answer, or the whole way's on memory that the short way left alone.
use Rattle.inserts.proofs.Promises.{sets_if_new}
use Rattle.lists.proofs.insert.one.Goals as goal

pub returns-in-Some : goal.returns-in-Some
returns-in-Some c = sets_if_new _ c.args.id c.ranges.id _ _ c.in-Some.ensures.0

pub returns-in-None : goal.returns-in-None
returns-in-None c = sets_if_new _ c.args.id c.ranges.id _ _ (rw c.in-None.ensures at c.anywhere.ensures)

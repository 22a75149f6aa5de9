-- The id lies in a chunk of an open set. Assumes nothing.
use Rattle.insert_plan.proofs.Gates.{open_split}
use Rattle.insert_ways.proofs.append.put.Goals as goal

pub into-requires : goal.into-requires
into-requires c =
    open_split _ _ c.open.ensures c.if-is_err.ensures.negation _ c.shift-s.ensures c.args.id c.ranges.id _ c.split.ensures _ _ c.in-Some.is

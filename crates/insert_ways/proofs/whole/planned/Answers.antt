-- The id lies in a chunk of an open set. Assumes nothing.
use mathlib.Core.Path.{ap}
use Rattle.std.specs.Result.{is_ok}
use Rattle.insert_plan.proofs.Gates.{open_split}
use Rattle.insert_ways.proofs.whole.planned.Goals as goal

pub put-requires : goal.put-requires
put-requires c =
    open_split _ _ c.open.ensures (ap is_ok c.in_ok-open.was) _ c.shift-s.ensures c.args.id c.ranges.id _ c.split.ensures _ _ c.in-Some.is

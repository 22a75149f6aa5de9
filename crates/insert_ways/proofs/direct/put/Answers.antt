-- The id lies in a chunk of an open set. Assumes nothing.
use mathlib.Core.Path.{sym}
use Rattle.insert_plan.proofs.Gates.{open_split}
use Rattle.insert_ways.proofs.direct.put.Goals as goal

pub into-requires : goal.into-requires
into-requires c =
    open_split _ _ c.open.ensures (sym c.in_ok-ok.ensures.variant) _ c.shift-s.ensures c.args.id c.ranges.id _ c.split.ensures _ _ c.in_ok-c.was

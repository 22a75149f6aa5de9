-- The id lies in a chunk of an open set. Assumes nothing.
use mathlib.Core.Path.{◌≡◌, ap}
use native.Mathlib.Omega.{arith}
use Rattle.std.specs.Result.{is_ok}
use Rattle.std.specs.Prelude.{Some}
use Rattle.insert_plan.proofs.Gates.{open_split}
use Rattle.inserts.proofs.insert.prepared.Goals as goal

pub put_prepared-requires : goal.put_prepared-requires
put_prepared-requires c =
    let i : c.split.result ≡ Some (c.in_ok-c.c, c.in_ok-c.o) = grind arith in
    open_split _ _ c.open.ensures (ap is_ok c.in_ok-open.was) _ c.shift-s.ensures c.args.id c.ranges.id _ c.split.ensures _ _ i

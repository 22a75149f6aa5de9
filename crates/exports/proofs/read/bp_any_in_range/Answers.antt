-- The code of the wrapped answer. Assumes nothing.
use lib.IntN.{ℤ}
use Rattle.layout.specs.Mem.{mem}
use Rattle.document.specs.Calls.{range_test, whether}
use Rattle.contracts.specs.Does.{Answers}
use Rattle.codes.specs.Codes.{truth_code}
use Rattle.codes.proofs.Codes.{coded_between}
use Rattle.exports.proofs.read.bp_any_in_range.Goals as goal
use Rattle.document.specs.Results.{Truth}

pub returns : goal.returns
returns c =
    let x = mem c.args.pages.now c.args.rows.now c.args.blocks.now c.args.table.now in
    coded_between truth_code (λ (y z : ℤ) (b : Truth). Answers x (range_test y z) (whether b)) c.args.min c.args.max c.ranges.min c.ranges.max _ _ c.from.ensures c.any_in_range.ensures

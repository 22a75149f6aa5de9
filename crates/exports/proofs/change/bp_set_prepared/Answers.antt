-- The code of the wrapped answer, and its memory. Assumes nothing.
use Rattle.layout.specs.Mem.{Mem, mem}
use lib.IntN.{ℤ}
use Rattle.document.specs.Calls.{prepared, whether}
use Rattle.contracts.specs.Does.{Does}
use Rattle.codes.specs.Codes.{truth_code}
use Rattle.codes.proofs.Codes.{coded_into}
use Rattle.exports.proofs.change.bp_set_prepared.Goals as goal
use Rattle.document.specs.Results.{Truth}

pub returns : goal.returns
returns c =
    coded_into truth_code (λ (z : ℤ) (b : Truth) (y : Mem). Does (mem c.args.pages.now c.args.rows.now c.args.blocks.now c.args.table.now) (prepared z) (whether b) y) c.args.id c.ranges.id _ _ _ c.from.ensures c.set_prepared.ensures

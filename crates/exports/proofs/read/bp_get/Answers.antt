-- The code of the wrapped answer. Assumes nothing.
use Rattle.layout.specs.Mem.{mem}
use lib.IntN.{ℤ}
use Rattle.document.specs.Calls.{get, whether}
use Rattle.contracts.specs.Does.{Answers}
use Rattle.codes.specs.Codes.{truth_code}
use Rattle.codes.proofs.Codes.{coded_at}
use Rattle.exports.proofs.read.bp_get.Goals as goal
use Rattle.document.specs.Results.{Truth}

pub returns : goal.returns
returns c =
    coded_at truth_code (λ (z : ℤ) (b : Truth). Answers (mem c.args.pages.now c.args.rows.now c.args.blocks.now c.args.table.now) (get z) (whether b)) c.args.id c.ranges.id _ _ c.from.ensures c.get.ensures

-- The code of the wrapped answer, and its memory. Assumes nothing.
use Rattle.layout.specs.Mem.{Mem, mem}
use lib.IntN.{ℤ}
use Rattle.document.specs.Calls.{prepare, that}
use Rattle.contracts.specs.Does.{Does}
use Rattle.codes.specs.Codes.{outcome_code}
use Rattle.codes.proofs.Codes.{coded_into}
use Rattle.exports.proofs.change.bp_pre_allocate.Goals as goal
use Rattle.document.specs.Results.{Outcome}

pub returns : goal.returns
returns c =
    coded_into outcome_code (λ (z : ℤ) (b : Outcome) (y : Mem). Does (mem c.args.pages.now c.args.rows.now c.args.blocks.now c.args.table.now) (prepare z) (that b) y) c.args.max c.ranges.max _ _ _ c.from.ensures c.pre_allocate.ensures

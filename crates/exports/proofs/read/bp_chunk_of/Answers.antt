-- The code of the wrapped answer. Assumes nothing.
use Rattle.layout.specs.Mem.{mem}
use lib.IntN.{ℤ}
use Rattle.document.specs.Calls.{chunk_id, maybe}
use Rattle.contracts.specs.Does.{Answers}
use Rattle.codes.specs.Codes.{perhaps_code}
use Rattle.codes.proofs.Codes.{coded_at}
use Rattle.exports.proofs.read.bp_chunk_of.Goals as goal
use Rattle.document.specs.Results.{Perhaps}

pub returns : goal.returns
returns c =
    coded_at perhaps_code (λ (z : ℤ) (b : Perhaps). Answers (mem c.args.pages.now c.args.rows.now c.args.blocks.now c.args.table.now) (chunk_id z) (maybe b)) c.args.id c.ranges.id _ _ c.from.ensures c.chunk_of.ensures

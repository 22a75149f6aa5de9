-- The code of the wrapped answer. Assumes nothing.
use Rattle.layout.specs.Mem.{mem}
use lib.IntN.{ℤ}
use Rattle.document.specs.Calls.{rank_if_set, maybe}
use Rattle.contracts.specs.Does.{Answers}
use Rattle.codes.specs.Codes.{perhaps_code}
use Rattle.codes.proofs.Codes.{coded_at}
use Rattle.exports.proofs.read.bp_rank_if_set.Goals as goal
use Rattle.document.specs.Results.{Perhaps}

pub returns : goal.returns
returns c =
    coded_at perhaps_code (λ (z : ℤ) (b : Perhaps). Answers (mem c.args.pages.now c.args.rows.now c.args.blocks.now c.args.table.now) (rank_if_set z) (maybe b)) c.args.id c.ranges.id _ _ c.from.ensures c.rank_if_set.ensures

-- The code of the wrapped answer. Assumes nothing.
use Rattle.layout.specs.Mem.{mem}
use lib.IntN.{ℤ}
use Rattle.document.specs.Calls.{rank_of, many}
use Rattle.contracts.specs.Does.{Answers}
use Rattle.codes.specs.Codes.{amount_code}
use Rattle.codes.proofs.Codes.{coded_at}
use Rattle.exports.proofs.read.bp_rank.Goals as goal
use Rattle.document.specs.Results.{Amount}

pub returns : goal.returns
returns c =
    coded_at amount_code (λ (z : ℤ) (b : Amount). Answers (mem c.args.pages.now c.args.rows.now c.args.blocks.now c.args.table.now) (rank_of z) (many b)) c.args.id c.ranges.id _ _ c.from.ensures c.rank.ensures

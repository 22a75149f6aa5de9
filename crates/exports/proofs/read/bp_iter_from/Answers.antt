-- The wrapped record. Assumes nothing.
use lib.IntN.{ℤ}
use Rattle.layout.specs.Mem.{mem}
use Rattle.document.specs.Calls.{iterate, listed}
use Rattle.document.specs.declared.answer.Listing.{Listing}
use Rattle.contracts.specs.Does.{Answers}
use Rattle.codes.proofs.Codes.{told_at}
use Rattle.exports.proofs.read.bp_iter_from.Goals as goal

pub returns : goal.returns
returns c =
    told_at (λ (z : ℤ) (r : Listing). Answers (mem c.args.pages.now c.args.rows.now c.args.blocks.now c.args.table.now) (iterate z) (listed r)) c.args.start c.ranges.start _ c.iter_from.ensures

-- The header that was looked at has sizes of document 01. Assumes nothing.
use mathlib.Core.Path.{sym}
use Rattle.layout.proofs.Tests.{head_of}
use Rattle.insert_plan.proofs.turn.Goals as goal

pub free_page-p-requires : goal.free_page-p-requires
free_page-p-requires c = ((head_of _ _).sound (sym c.if-not-head_is.ensures)).sizes

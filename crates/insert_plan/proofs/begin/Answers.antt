-- The header that was looked at has sizes of document 01. Assumes nothing.
use mathlib.Core.Path.{sym}
use Rattle.layout.proofs.Tests.{head_of}
use Rattle.insert_plan.proofs.begin.Goals as goal

pub free_row-r-requires : goal.free_row-r-requires
free_row-r-requires c = ((head_of _ _).sound (sym c.if-not-head_is.ensures)).sizes

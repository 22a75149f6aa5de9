-- The test of the sizes says that they are allowed. Assumes nothing.
use mathlib.Core.Path.{sym, ◌∙◌}
use Rattle.layout.proofs.Tests.{range_of}
use Rattle.layout_writes.proofs.setup.allowed.Goals as goal

pub has_room-requires : goal.has_room-requires
has_room-requires c = (range_of c.args.h).sound (sym c.in_range.ensures ∙ c.if-not-in_range.false)

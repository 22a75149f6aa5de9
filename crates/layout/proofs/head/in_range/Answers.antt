-- The straight line of tests is the definition. Assumes nothing.
use mathlib.Core.Path.{refl}
use Rattle.layout.specs.Tests.{in_range}
use Rattle.layout.proofs.head.in_range.Goals as goal

pub returns : goal.returns
unfolding in_range
returns c = refl

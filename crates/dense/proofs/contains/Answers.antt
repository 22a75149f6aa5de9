-- `contains` is its definition, read off the word.
use mathlib.Core.Path.{refl}
use Rattle.dense.specs.Bits.{is_set, bit}
use Rattle.dense.proofs.contains.Goals as goal

pub returns : goal.returns
unfolding is_set bit
returns c = refl

-- `insert` stores the word with the bit set, and answers by the bit it had.
use mathlib.Core.Path.{refl}
use Rattle.dense.specs.Bits.{is_set, bit}
use Rattle.dense.proofs.Turns.{with_is}
use Rattle.dense.proofs.insert.Goals as goal

pub returns : goal.returns
unfolding is_set bit
returns c = (refl, with_is c.args.words.now c.args.off)

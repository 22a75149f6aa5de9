use native.Mathlib.Omega.{arith}
use Rattle.dense.proofs.Counts.{bits_le}
use Rattle.dense.proofs.Scans.{bits_below}
use Rattle.dense.proofs.block.rank_within.Goals as goal

pub overflow_add-result : goal.overflow_add-result
overflow_add-result c = record { fits = omega (arith, bits_below c.args.block c.args.off (omega arith), bits_le c.args.block c.args.off) }

pub returns : goal.returns
returns c = omega (arith, bits_below c.args.block c.args.off (omega arith))

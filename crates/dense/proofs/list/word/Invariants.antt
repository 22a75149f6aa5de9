-- Invariant: the bits of `rest` are left to write. The measure is `rest`, which is less without its lowest bit.
use Rattle.sums.specs.Members.{plus}
use Rattle.sums.proofs.Filling.{Left}
use Rattle.dense.proofs.Listed.{set_bits}
use Rattle.dense.proofs.list.word.Given as goal

abbrev pub invariant-loop-rest : goal.invariant-loop-rest
invariant-loop-rest l = Left l.fn.out l.k (plus l.at (set_bits l.w)) l.out l.n (plus l.at (set_bits l.rest))

abbrev pub decreases-loop-rest : goal.decreases-loop-rest
decreases-loop-rest l = l.rest

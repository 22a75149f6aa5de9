-- Invariant: the bits from word i on are left to write.
use Prim.Native.Nat.{◌*◌}
use Rattle.sums.proofs.Filling.{Left}
use Rattle.dense.proofs.Listed.{asked}
use Rattle.dense.proofs.list.ids.Given as goal

abbrev pub invariant-loop-i : goal.invariant-loop-i
invariant-loop-i l = Left l.fn.out l.k (asked l.words l.base l.from) l.out l.n (asked l.words l.base (64 * l.i))

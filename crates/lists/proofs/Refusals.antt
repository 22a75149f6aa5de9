-- No insert is refused with a 0, on any memory: so 0 says that there was no refusal. Assumes nothing.
use mathlib.Core.Path.{◌≡◌}
use Prim.Native.Nat.{◌<◌}
use native.Mathlib.Omega.{arith}
use lib.IntN.{ℤ}
use Rattle.document.specs.Refusals.{number}
use Rattle.document.specs.declared.refusal.Refusal.{Refusal}
use Rattle.document.specs.declared.refusal.Refusal.TheVariants.{OutsideSizes, TooShort, NotLaidOut, IsRanked, IsOpen, OverflowFull, RowsFull, PagesFull, NotPrepared, SizesDiffer, NoRoom, NoPartition}
use Rattle.layout.specs.Mem.{Mem}
use Rattle.calls.specs.Insert.{insert_by}
use Rattle.std.specs.Prelude.{Err}

above_zero : (n : Refusal) → 0 < number n
above_zero OutsideSizes = omega arith
above_zero TooShort = omega arith
above_zero NotLaidOut = omega arith
above_zero IsRanked = omega arith
above_zero IsOpen = omega arith
above_zero OverflowFull = omega arith
above_zero RowsFull = omega arith
above_zero PagesFull = omega arith
above_zero NotPrepared = omega arith
above_zero SizesDiffer = omega arith
above_zero NoRoom = omega arith
above_zero NoPartition = omega arith

pub never_zero : (x : Mem) (z : ℤ) (n : Refusal) → (insert_by x z).answer ≡ Err n → number n ≡ 0 → ⊥
never_zero x z n e = let h = above_zero n in λ (d : number n ≡ 0). omega arith

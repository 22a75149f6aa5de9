use mathlib.Core.Path.{refl, ap, ◌∙◌}
use Prim.Native.Nat.{ℕ, ◌*◌, ◌%◌, ◌^◌}
use native.Mathlib.Omega.{arith}
use lib.ListN.{length-take}
use lib.Seq.{get_or-take}
use Rattle.dense.specs.Bits.{with_row}
use Rattle.dense.proofs.Turns.{row_more}
use Rattle.dense.proofs.write_row.Goals as goal

pub loop-off-init : goal.loop-off-init
unfolding with_row
loop-off-init c = refl

pub loop-off-preserved : goal.loop-off-preserved
loop-off-preserved c =
    let a = c.args in
    let l = c.loop-off in
    let e = c.from.ensures ∙ get_or-take a.len a.row.now l.off-index 0 (omega (arith, length-take a.len a.row.now)) in
    row_more a.words.now a.row.now l.words a.s l.off-index _ (omega arith) (ap (λ (x : ℕ). x % (1 * 2 ^ a.s % 2 ^ 64)) e) l.invariant

-- The digits are found apart, and put behind what stood before `at`. Assumes nothing.
use mathlib.Core.Path.{◌∙◌}
use Prim.Native.Nat.{◌≤◌}
use native.Mathlib.Omega.{arith}
use Rattle.spell.proofs.Buffers.{spelt}
use Rattle.spell.proofs.Numbers.{fewest_are, fewest_few}
use Rattle.spell.proofs.number.Goals as goal

pub returns : goal.returns
returns c =
    let d = c.decimal-k in
    let n = c.args.n in
    let few : d.result ≤ 20 = fewest_few d.result n d.ensures.len (omega arith) in
    spelt (d.ensures.digits ∙ fewest_are d.result n d.ensures.len few) (omega (arith, d.ensures.in_bounds)) c.text.ensures

use mathlib.Core.Path.{◌≡◌, ◌∙◌}
use Prim.Native.Nat.{◌*◌, ◌^◌, ◌<◌}
use native.Mathlib.Omega.{arith}
use lib.Count.{ones}
use lib.ListN.{length}
use Rattle.std.proofs.Common.{of_calls}
use Rattle.std.specs.List.{sum_by}
use Rattle.dense.proofs.Counts.{ones_all, bits_le}
use Rattle.dense.proofs.words.count.Goals as goal

pub sum-requires-clause-fits : goal.sum-requires-clause-fits
sum-requires-clause-fits c =
    let w = c.args.words.now in
    let l : sum_by ones w < 2 ^ 64 = omega (arith, ones_all w (λ i l. (c.type_inv.words i).fits), bits_le w (64 * length w)) in
    search of_calls

pub returns : goal.returns
returns c =
    let w = c.args.words.now in
    let e : c.sum.result ≡ sum_by ones w = search of_calls in
    e ∙ ones_all w (λ i l. (c.type_inv.words i).fits)

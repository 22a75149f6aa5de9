-- The search over all overflow ids. Assumes nothing.
use mathlib.Core.Path.{◌∙◌, ap}
use Prim.Native.Nat.{ℕ}
use native.Mathlib.Omega.{arith}
use Rattle.layout.specs.Sizes.{over_start}
use Rattle.layout.specs.Short.{over_place}
use Rattle.layout.proofs.find.over_below.Goals as goal

pub returns : goal.returns
returns c =
    let a = c.args in (c.over_place.ensures.0 ∙ ap (λ (n : ℕ). over_place a.table.now (over_start a.h.d) n a.c) c.over_count.ensures, omega arith)

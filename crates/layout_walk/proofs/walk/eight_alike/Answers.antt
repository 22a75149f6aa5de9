-- Each of the eight has word 0 and the prefix that is asked for. Assumes nothing.
use mathlib.Core.Path.{refl, sym, ◌∙◌}
use native.Mathlib.Omega.{arith}
use Rattle.layout_walk.proofs.Passes.{alike}
use Rattle.layout.proofs.Eights.{absent_there}
use Rattle.layout_walk.proofs.walk.eight_alike.Goals as goal

pub eight_prefixes-requires : goal.eight_prefixes-requires
eight_prefixes-requires c =
    (c.requires.2, omega (arith, c.requires.1, absent_there c.args.h c.args.table.now c.args.e _ refl (sym c.eight_absent.ensures ∙ c.if-eight_absent.true)))

pub returns-then-eight_absent : goal.returns-then-eight_absent
returns-then-eight_absent c =
    let a = c.args in
    alike a.h a.table.now a.e a.n (sym c.eight_absent.ensures ∙ c.if-eight_absent.true) _ c.eight_prefixes.ensures

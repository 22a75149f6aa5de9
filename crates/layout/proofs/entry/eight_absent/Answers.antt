-- The run is inside the direct entries, or it is not looked at. Assumes nothing.
use native.Mathlib.Omega.{arith}
use Rattle.layout.proofs.Eights.{eight_no, eight_yes, eight_there}
use Rattle.std.proofs.lemmas.Bool.{not_from_false, not_from_true}
use Rattle.layout.proofs.entry.eight_absent.Goals as goal

pub returns-then-not-e-d : goal.returns-then-not-e-d
returns-then-not-e-d c = let a = c.args in eight_no a.table.now a.d a.e (not_from_false _ c.if-not-e-d.true)

pub eight_are-requires : goal.eight_are-requires
eight_are-requires c =
    (omega (arith, c.requires), omega (arith, c.requires, eight_there c.args.table.now c.args.d c.args.e (not_from_true _ c.if-not-e-d.false)))

pub returns : goal.returns
returns c = let a = c.args in eight_yes a.table.now a.d a.e (not_from_true _ c.if-not-e-d.false) _ c.eight_are.ensures

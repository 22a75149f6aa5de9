use Rattle.layout.proofs.Finds.{halving_start, halving_up, halving_down, halving_end}
use Rattle.layout.proofs.find.over_place.Goals as goal

pub loop-lo-init : goal.loop-lo-init
loop-lo-init c = halving_start _ _ _ _

pub loop-lo-preserved-then-at-c : goal.loop-lo-preserved-then-at-c
loop-lo-preserved-then-at-c c = halving_up _ _ _ _ _ _ _ c.loop-lo.invariant c.loop-lo-test.true c.at.ensures c.if-at-c.true

pub loop-lo-preserved : goal.loop-lo-preserved
loop-lo-preserved c = halving_down _ _ _ _ _ _ _ c.loop-lo.invariant c.loop-lo-test.true c.at.ensures c.if-at-c.false

pub returns : goal.returns
returns c = halving_end _ _ _ _ _ _ c.loop-lo.invariant c.loop-lo-test.false

-- Nothing to round at 0; else one more than the quotient of one less. Assumes nothing.
use Rattle.intervals.proofs.Rounded.{parts_none, parts_some, parts_fits}
use Rattle.intervals.proofs.round.parts.Goals as goal

pub returns-then-t-eq0 : goal.returns-then-t-eq0
returns-then-t-eq0 c = parts_none _ c.args.slots c.if-t-eq0.true

pub overflow_add-result : goal.overflow_add-result
overflow_add-result c = parts_fits _ _ c.if-t-eq0.false c.ranges.t.fits

pub returns : goal.returns
returns c = parts_some _ c.args.slots _ c.if-t-eq0.false c.max.ensures

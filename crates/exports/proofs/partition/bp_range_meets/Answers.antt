-- The wrapped answer on the interval made. Assumes nothing.
use mathlib.Core.Path.{◌∙◌, ap₂}
use mir.Facts.{to_z-of_z}
use Rattle.document.specs.Spans.{range_meets}
use Rattle.codes.proofs.Codes.{span_read}
use Rattle.exports.proofs.partition.bp_range_meets.Goals as goal

pub returns : goal.returns
returns c =
    c.range_meets.ensures ∙ ap₂ (λ f i. f i) (ap₂ range_meets (to_z-of_z c.ranges.min) (to_z-of_z c.ranges.max)) (span_read c.args.has_high _ _ c.ranges.low c.ranges.high _ c.span_of.ensures)

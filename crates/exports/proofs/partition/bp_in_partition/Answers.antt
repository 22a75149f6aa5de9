-- The wrapped answer on the interval made. Assumes nothing.
use mathlib.Core.Path.{◌∙◌, ap₂}
use lib.IntN.{ℤ}
use mir.Facts.{to_z-of_z}
use Rattle.document.specs.Spans.{in_partition}
use Rattle.document.specs.declared.plan.Span.{Span}
use Rattle.codes.proofs.Codes.{span_read}
use Rattle.exports.proofs.partition.bp_in_partition.Goals as goal

pub returns : goal.returns
returns c =
    c.in_partition.ensures ∙ ap₂ (λ (z : ℤ) (i : Span). in_partition z i) (to_z-of_z c.ranges.id) (span_read c.args.has_high _ _ c.ranges.low c.ranges.high _ c.span_of.ensures)

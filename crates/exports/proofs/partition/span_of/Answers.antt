-- By the test. Assumes nothing.
use mathlib.Core.Path.{◌∙◌, ap, ap₂, sym}
use mathlib.Core.Bool.{Bool}
use mir.Facts.{to_z-of_z}
use Rattle.document.specs.declared.plan.Span.TheVariants.{Between, From}
use Rattle.codes.specs.Codes.{span_in}
use Rattle.exports.proofs.partition.span_of.Goals as goal

pub returns-then-has_high : goal.returns-then-has_high
returns-then-has_high c =
    ap₂ Between (to_z-of_z c.ranges.low) (to_z-of_z c.ranges.high) ∙ ap (λ (b : Bool). span_in b c.args.low c.args.high) (sym c.if-has_high.true)

pub returns : goal.returns
returns c =
    ap From (to_z-of_z c.ranges.low) ∙ ap (λ (b : Bool). span_in b c.args.low c.args.high) (sym c.if-has_high.false)

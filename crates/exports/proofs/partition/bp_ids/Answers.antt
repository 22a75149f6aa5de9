-- The code of the wrapped answer on the plan made. Assumes nothing.
use mathlib.Core.Path.{◌∙◌, ap}
use Rattle.document.specs.Spans.{ids_answer}
use Rattle.document.specs.declared.plan.Plan.{Plan}
use Rattle.codes.specs.Codes.{spanned_code}
use Rattle.exports.proofs.partition.bp_ids.Goals as goal

pub returns : goal.returns
returns c =
    let a = c.args in c.from.ensures ∙ ap spanned_code (c.ids.ensures ∙ ap (λ (p : Plan). ids_answer p a.bounds.now a.k) c.plan_of.ensures)

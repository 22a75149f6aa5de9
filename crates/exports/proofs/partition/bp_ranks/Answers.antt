-- The code of the wrapped answer on the plan made. Assumes nothing.
use mathlib.Core.Path.{◌∙◌, ap}
use Rattle.document.specs.Spans.{ranks_answer}
use Rattle.document.specs.declared.plan.Plan.{Plan}
use Rattle.codes.specs.Codes.{ranks_code}
use Rattle.exports.proofs.partition.bp_ranks.Goals as goal

pub returns : goal.returns
returns c =
    let a = c.args in c.from.ensures ∙ ap ranks_code (c.ranks.ensures ∙ ap (λ (p : Plan). ranks_answer p a.k) c.plan_of.ensures)

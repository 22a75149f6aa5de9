-- What the plan of an insert answers: what is to be done, or the refusal.
use Rattle.std.specs.Prelude.{Result}
use Rattle.document.specs.declared.refusal.Refusal.{Refusal}
use Rattle.calls.specs.declared.plan.Plan.{Plan}

abbrev pub InsertPlan : Type 0
InsertPlan = Result Plan Refusal

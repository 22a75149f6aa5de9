-- What calls answer: a value, or the refusal.
use Rattle.std.specs.Prelude.{ℕ, Bool, Option, Result}
use Rattle.document.specs.declared.refusal.Refusal.{Refusal}
use Rattle.document.specs.declared.plan.Plan.{Plan}
use Rattle.document.specs.declared.plan.Span.{Span}
use Rattle.document.specs.declared.plan.Ranks.{Ranks}

-- a call that only does something
abbrev pub Outcome : Type 0
Outcome = Result Unit Refusal

-- yes or no
abbrev pub Truth : Type 0
Truth = Result Bool Refusal

-- a number
abbrev pub Amount : Type 0
Amount = Result ℕ Refusal

-- a number or none
abbrev pub Perhaps : Type 0
Perhaps = Result (Option ℕ) Refusal

-- a plan
abbrev pub Planning : Type 0
Planning = Result Plan Refusal

-- a partition's interval
abbrev pub Spanned : Type 0
Spanned = Result Span Refusal

-- a partition's ranks
abbrev pub Ranked : Type 0
Ranked = Result Ranks Refusal

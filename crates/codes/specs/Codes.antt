-- Answers as C gets them: a field for the refusal, document 01's number or 0, and fields for the rest, all 0 beside a number.
use Rattle.std.specs.Prelude.{ℕ, ◌≡◌, Bool, true, false, cond, ℤ, pos, Some, None, Ok, Err}
use Rattle.document.specs.Refusals.{number, Numbered}
use Rattle.document.specs.declared.plan.Plan.{Plan}
use Rattle.document.specs.declared.plan.Span.{Span}
use Rattle.document.specs.declared.plan.Span.TheVariants as span
use Rattle.codes.specs.declared.answer.DoneAnswer.{DoneAnswer}
use Rattle.codes.specs.declared.answer.TruthAnswer.{TruthAnswer}
use Rattle.codes.specs.declared.answer.NumberAnswer.{NumberAnswer}
use Rattle.codes.specs.declared.answer.OptionalAnswer.{OptionalAnswer}
use Rattle.codes.specs.declared.cut.PlanAnswer.{PlanAnswer}
use Rattle.codes.specs.declared.cut.IntervalAnswer.{IntervalAnswer}
use Rattle.codes.specs.declared.cut.RanksAnswer.{RanksAnswer}
use Rattle.document.specs.Results.{Amount, Outcome, Perhaps, Planning, Ranked, Spanned, Truth}

abbrev pub outcome_code : Outcome → DoneAnswer
outcome_code (Ok tt) = record { refusal = 0 }
outcome_code (Err n) = record { refusal = number n }

abbrev pub truth_code : Truth → TruthAnswer
truth_code (Ok b) = record { refusal = 0; yes = b }
truth_code (Err n) = record { refusal = number n; yes = false }

abbrev pub amount_code : Amount → NumberAnswer
amount_code (Ok n) = record { refusal = 0; value = n }
amount_code (Err n) = record { refusal = number n; value = 0 }

abbrev pub perhaps_code : Perhaps → OptionalAnswer
perhaps_code (Ok (Some n)) = record { refusal = 0; has = true; value = n }
perhaps_code (Ok None) = record { refusal = 0; has = false; value = 0 }
perhaps_code (Err n) = record { refusal = number n; has = false; value = 0 }

-- ---- a plan's answers

abbrev pub planning_code : Planning → PlanAnswer
planning_code (Ok p) = record { refusal = 0; total = p.total; slots = p.slots; partitions = p.partitions }
planning_code (Err n) = record { refusal = number n; total = 0; slots = 0; partitions = 0 }

abbrev pub interval_code : ℕ → Bool → ℤ → ℤ → IntervalAnswer
interval_code n hasHigh lo hi = record { refusal = n; has_high = hasHigh; low = lo; high = hi }

abbrev pub span_code : Span → IntervalAnswer
span_code (span.Between lo hi) = interval_code 0 true lo hi
span_code (span.From lo) = interval_code 0 false lo (pos 0)

abbrev pub spanned_code : Spanned → IntervalAnswer
spanned_code (Ok i) = span_code i
spanned_code (Err n) = interval_code (number n) false (pos 0) (pos 0)

abbrev pub ranks_code : Ranked → RanksAnswer
ranks_code (Ok k) = record { refusal = 0; first = k.first; count = k.count }
ranks_code (Err n) = record { refusal = number n; first = 0; count = 0 }

-- ---- answers that a code can be read back to: a refusal has a number of document 01's table

abbrev pub OutcomeNumbered : Outcome → Type 0
OutcomeNumbered (Ok tt) = Unit
OutcomeNumbered (Err n) = Numbered (number n)

abbrev pub TruthNumbered : Truth → Type 0
TruthNumbered (Ok b) = Unit
TruthNumbered (Err n) = Numbered (number n)

abbrev pub AmountNumbered : Amount → Type 0
AmountNumbered (Ok n) = Unit
AmountNumbered (Err n) = Numbered (number n)

abbrev pub PerhapsNumbered : Perhaps → Type 0
PerhapsNumbered (Ok (Some n)) = Unit
PerhapsNumbered (Ok None) = Unit
PerhapsNumbered (Err n) = Numbered (number n)

abbrev pub PlanningNumbered : Planning → Type 0
PlanningNumbered (Ok p) = Unit
PlanningNumbered (Err n) = Numbered (number n)

abbrev pub SpannedNumbered : Spanned → Type 0
SpannedNumbered (Ok i) = Unit
SpannedNumbered (Err n) = Numbered (number n)

abbrev pub RanksNumbered : Ranked → Type 0
RanksNumbered (Ok k) = Unit
RanksNumbered (Err n) = Numbered (number n)

-- ---- a plan and an interval, as C gives them

abbrev pub plan_in : ℕ → ℕ → ℕ → Plan
plan_in t slots n = record { total = t; slots = slots; partitions = n }

abbrev pub span_in : Bool → ℤ → ℤ → Span
span_in hasHigh lo hi = cond hasHigh (span.Between lo hi) (span.From lo)

-- ---- contracts

-- r is the code of an answer that the wrapped call's contract allows
pub record Coded {A R : Type 0} (code : A → R) (says : A → Type 0) (r : R) : Type 0 where
  pub answer : A
  pub coded : r ≡ code answer
  pub said : says answer

-- What C reads from an entry's fields is an answer that the call's contract allows: no two answers have one code. Assumes nothing.
use mathlib.Core.Path.{◌≡◌, ap, ◌∙◌}
use mathlib.Core.List.{List}
use Prim.Native.Nat.{ℕ}
use lib.IntN.{ℤ}
use Rattle.document.specs.Calls.{Call, Ask, whether, that, many, maybe}
use Rattle.document.specs.Union.{Join}
use Rattle.document.specs.Spans.{ids_answer, ranks_answer}
use Rattle.document.specs.declared.sizes.Sizes.{Sizes}
use Rattle.document.specs.declared.plan.Plan.{Plan}
use Rattle.layout.specs.Mem.{Mem}
use Rattle.contracts.specs.Does.{Does, Answers, SetsUp, Joins}
use Rattle.cuts.specs.Promise.{Plans}
use Rattle.range_list.specs.Marks.{EndsByRange, EndsByPartition}
use Rattle.lists.specs.Lists.{ListAsk, AnswersAll}
use Rattle.codes.specs.declared.answer.DoneAnswer.{DoneAnswer}
use Rattle.codes.specs.declared.answer.TruthAnswer.{TruthAnswer}
use Rattle.codes.specs.declared.answer.NumberAnswer.{NumberAnswer}
use Rattle.codes.specs.declared.answer.OptionalAnswer.{OptionalAnswer}
use Rattle.codes.specs.declared.cut.PlanAnswer.{PlanAnswer}
use Rattle.codes.specs.declared.cut.IntervalAnswer.{IntervalAnswer}
use Rattle.codes.specs.declared.cut.RanksAnswer.{RanksAnswer}
use Rattle.codes.specs.Codes.{Coded, outcome_code, truth_code, amount_code, perhaps_code, planning_code, spanned_code, ranks_code}
use Rattle.codes.specs.Codes.{OutcomeNumbered, TruthNumbered, AmountNumbered, PerhapsNumbered, PlanningNumbered}
use Rattle.codes.proofs.Codes.{outcome_in, truth_in, amount_in, perhaps_in, planning_in, spanned_in, ranks_in, coded_back}
use Rattle.codes.proofs.Codes.{outcome_back, truth_back, amount_back, perhaps_back, planning_back, spanned_back, ranks_back}
use Rattle.ties.proofs.Numbered.{numbered, numbered_reading, numbered_set_up, numbered_union, numbered_plan, numbered_ids, numbered_ranks, numbered_by_range, numbered_by_partition, numbered_list}
use Rattle.document.specs.Results.{Amount, Outcome, Perhaps, Planning, Truth}

done_read : (says : Outcome → Type 0) → ((a : Outcome) → says a → OutcomeNumbered a) → (r : DoneAnswer) → Coded outcome_code says r → says (outcome_in r)
done_read says = coded_back outcome_code outcome_in OutcomeNumbered outcome_back says

-- ---- calls that change a set

module _ (x : Mem) (c : Call) (y : Mem) where
  pub done_back : (r : DoneAnswer) → Coded outcome_code (λ (a : Outcome). Does x c (that a) y) r → Does x c (that (outcome_in r)) y
  done_back = done_read (λ (a : Outcome). Does x c (that a) y) (λ a d. numbered x c (that a) y d)

  pub new_back : (r : TruthAnswer) → Coded truth_code (λ (a : Truth). Does x c (whether a) y) r → Does x c (whether (truth_in r)) y
  new_back = coded_back truth_code truth_in TruthNumbered truth_back (λ (a : Truth). Does x c (whether a) y) (λ a d. numbered x c (whether a) y d)

pub set_up_back : (h : Sizes) (x y : Mem) (r : DoneAnswer) → Coded outcome_code (λ (a : Outcome). SetsUp h x a y) r → SetsUp h x (outcome_in r) y
set_up_back h x y = done_read (λ (a : Outcome). SetsUp h x a y) (λ a d. numbered_set_up h x a y d)

pub union_back : (x y : Mem) (j : Join) (x' y' : Mem) (r : DoneAnswer) → Coded outcome_code (λ (a : Outcome). Joins x y j a x' y') r → Joins x y j (outcome_in r) x' y'
union_back x y j x' y' = done_read (λ (a : Outcome). Joins x y j a x' y') (λ a d. numbered_union x y j a x' y' d)

-- ---- calls that read one

module _ (x : Mem) (k : Ask) where
  pub truth_read : (r : TruthAnswer) → Coded truth_code (λ (a : Truth). Answers x k (whether a)) r → Answers x k (whether (truth_in r))
  truth_read = coded_back truth_code truth_in TruthNumbered truth_back (λ (a : Truth). Answers x k (whether a)) (λ a d. numbered_reading x k (whether a) d)

  pub number_read : (r : NumberAnswer) → Coded amount_code (λ (a : Amount). Answers x k (many a)) r → Answers x k (many (amount_in r))
  number_read = coded_back amount_code amount_in AmountNumbered amount_back (λ (a : Amount). Answers x k (many a)) (λ a d. numbered_reading x k (many a) d)

  pub optional_read : (r : OptionalAnswer) → Coded perhaps_code (λ (a : Perhaps). Answers x k (maybe a)) r → Answers x k (maybe (perhaps_in r))
  optional_read = coded_back perhaps_code perhaps_in PerhapsNumbered perhaps_back (λ (a : Perhaps). Answers x k (maybe a)) (λ a d. numbered_reading x k (maybe a) d)

-- ---- plans and range lists

pub plan_back : (x : Mem) (slots : ℕ) (bs cs : List ℤ) (r : PlanAnswer) → Coded planning_code (λ (a : Planning). Plans x slots bs a cs) r → Plans x slots bs (planning_in r) cs
plan_back x slots bs cs =
    coded_back planning_code planning_in PlanningNumbered planning_back (λ (a : Planning). Plans x slots bs a cs) (λ a d. numbered_plan x slots bs a cs d)

module _ (p : Plan) (bs : List ℤ) (k : ℕ) where
  pub ids_back : (r : IntervalAnswer) → r ≡ spanned_code (ids_answer p bs k) → spanned_in r ≡ ids_answer p bs k
  ids_back r e = ap spanned_in e ∙ spanned_back (ids_answer p bs k) (numbered_ids p bs k)

  pub ranks_read : (r : RanksAnswer) → r ≡ ranks_code (ranks_answer p k) → ranks_in r ≡ ranks_answer p k
  ranks_read r e = ap ranks_in e ∙ ranks_back (ranks_answer p k) (numbered_ranks p k)

  pub by_partition_back : (los his : List ℤ) (ms ms' : List ℕ) (r : DoneAnswer)
      → Coded outcome_code (λ (a : Outcome). EndsByPartition (ids_answer p bs k) los his ms a ms') r → EndsByPartition (ids_answer p bs k) los his ms (outcome_in r) ms'
  by_partition_back los his ms ms' =
      done_read (λ (a : Outcome). EndsByPartition (ids_answer p bs k) los his ms a ms') (λ a d. numbered_by_partition p bs k los his ms a ms' d)

pub by_range_back : (x : Mem) (los his : List ℤ) (ms ms' : List ℕ) (r : DoneAnswer)
    → Coded outcome_code (λ (a : Outcome). EndsByRange x los his ms a ms') r → EndsByRange x los his ms (outcome_in r) ms'
by_range_back x los his ms ms' = done_read (λ (a : Outcome). EndsByRange x los his ms a ms') (λ a d. numbered_by_range x los his ms a ms' d)

-- ---- calls over a list of ids

pub list_back : (x : Mem) (k : ListAsk) (ids : List ℤ) (ns ns' : List ℕ) (r : DoneAnswer)
    → Coded outcome_code (λ (a : Outcome). AnswersAll x k ids ns a ns') r → AnswersAll x k ids ns (outcome_in r) ns'
list_back x k ids ns ns' = done_read (λ (a : Outcome). AnswersAll x k ids ns a ns') (λ a d. numbered_list x k ids ns a ns' d)

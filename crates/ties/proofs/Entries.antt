-- The contract of every entry for C: it asks nothing of the caller, and it ensures the code of an answer that the call's predicate allows. Assumes nothing.
use mathlib.Core.Path.{◌≡◌, refl}
use seplogic.Ra.Ura.{Ura}
use prog.Memory.{Memory}
use prog.Routine.{Routine}
use prog.Model.{Model}
use prog.Wired.{Wired}
use base.Logic.{SProp}
use types.Logic.{Logic}
use contract.Monad.{Fun}
use contract.Running.{Running}
use denote.Triple.Spec.{Meets}
use Rattle.document.specs.Calls as calls
use Rattle.document.specs.Calls.{whether, that, many, maybe, listed}
use Rattle.document.specs.Spans.{ids_answer, ranks_answer, in_partition, range_meets}
use Rattle.numbers.specs.Budget.{slots_for_budget, file_bounded_max_id}
use Rattle.layout.specs.SetUp.{sizes_of}
use Rattle.document.specs.Union as union
use Rattle.contracts.specs.Does.{Does, Answers, SetsUp, Joins}
use Rattle.cuts.specs.Promise.{Plans}
use Rattle.range_list.specs.Marks.{EndsByRange, EndsByPartition}
use Rattle.lists.specs.Lists as listwise
use Rattle.lists.specs.Lists.{AnswersAll}
use Rattle.lists.specs.Inserts.{InsertsAll}
use Rattle.codes.specs.Codes.{Coded, outcome_code, truth_code, amount_code, perhaps_code, planning_code, spanned_code, ranks_code, plan_in, span_in}
use Rattle.ties.proofs.Ensures.{four, lent, half, two, Ensures}
use Rattle.exports.specs.contracts.change.bp_set_up as bp_set_up
use Rattle.exports.specs.contracts.change.bp_set_if_new as bp_set_if_new
use Rattle.exports.specs.contracts.change.bp_set as bp_set
use Rattle.exports.specs.contracts.change.bp_set_prepared as bp_set_prepared
use Rattle.exports.specs.contracts.change.bp_pre_allocate as bp_pre_allocate
use Rattle.exports.specs.contracts.union.bp_merge_from as bp_merge_from
use Rattle.exports.specs.contracts.union.bp_merge as bp_merge
use Rattle.exports.specs.contracts.change.bp_into_ranked as bp_into_ranked
use Rattle.exports.specs.contracts.change.bp_into_open as bp_leaving
use Rattle.exports.specs.contracts.read.bp_get as bp_get
use Rattle.exports.specs.contracts.read.bp_chunk_of as bp_chunk_of
use Rattle.exports.specs.contracts.read.bp_any_in_range as bp_ranging
use Rattle.exports.specs.contracts.read.bp_iter_from as bp_iter_from
use Rattle.exports.specs.contracts.read.bp_len as bp_len
use Rattle.exports.specs.contracts.read.bp_is_empty as bp_is_empty
use Rattle.exports.specs.contracts.read.bp_has_any as bp_has_any
use Rattle.exports.specs.contracts.read.bp_allocated_chunk_count as bp_allocated_chunk_count
use Rattle.exports.specs.contracts.read.bp_rank as bp_rank
use Rattle.exports.specs.contracts.read.bp_rank_if_set as bp_rank_if_set
use Rattle.exports.specs.contracts.read.bp_total_count as bp_total_count
use Rattle.exports.specs.contracts.read.bp_check as bp_check
use Rattle.exports.specs.contracts.partition.bp_plan as bp_plan
use Rattle.exports.specs.contracts.partition.bp_ids as bp_ids
use Rattle.exports.specs.contracts.partition.bp_ranks as bp_ranks
use Rattle.exports.specs.contracts.partition.bp_in_partition as bp_within
use Rattle.exports.specs.contracts.partition.bp_range_meets as bp_range_meets
use Rattle.exports.specs.contracts.ranges.bp_mark_ends_by_range as bp_mark_ends_by_range
use Rattle.exports.specs.contracts.ranges.bp_mark_ends_by_partition as bp_mark_ends_by_partition
use Rattle.exports.specs.contracts.list.bp_get_all as bp_get_all
use Rattle.exports.specs.contracts.list.bp_rank_all as bp_rank_all
use Rattle.exports.specs.contracts.list.bp_rank_if_set_all as bp_rank_if_set_all
use Rattle.exports.specs.contracts.list.bp_insert_all as bp_insert_all
use Rattle.exports.specs.contracts.number.bp_slots_for_budget as bp_slots_for_budget
use Rattle.exports.specs.contracts.number.bp_file_bounded_max_id as bp_file_bounded_max_id
use Rattle.exports.proofs.change.bp_set_up.Symbol as bp_set_up-at
use Rattle.exports.proofs.change.bp_set_if_new.Symbol as bp_set_if_new-at
use Rattle.exports.proofs.change.bp_set.Symbol as bp_set-at
use Rattle.exports.proofs.change.bp_set_prepared.Symbol as bp_set_prepared-at
use Rattle.exports.proofs.change.bp_pre_allocate.Symbol as bp_pre_allocate-at
use Rattle.exports.proofs.union.bp_merge_from.Symbol as bp_merge_from-at
use Rattle.exports.proofs.union.bp_merge.Symbol as bp_merge-at
use Rattle.exports.proofs.change.bp_into_ranked.Symbol as bp_into_ranked-at
use Rattle.exports.proofs.change.bp_into_open.Symbol as bp_leaving-at
use Rattle.exports.proofs.read.bp_get.Symbol as bp_get-at
use Rattle.exports.proofs.read.bp_chunk_of.Symbol as bp_chunk_of-at
use Rattle.exports.proofs.read.bp_any_in_range.Symbol as bp_ranging-at
use Rattle.exports.proofs.read.bp_iter_from.Symbol as bp_iter_from-at
use Rattle.exports.proofs.read.bp_len.Symbol as bp_len-at
use Rattle.exports.proofs.read.bp_is_empty.Symbol as bp_is_empty-at
use Rattle.exports.proofs.read.bp_has_any.Symbol as bp_has_any-at
use Rattle.exports.proofs.read.bp_allocated_chunk_count.Symbol as bp_allocated_chunk_count-at
use Rattle.exports.proofs.read.bp_rank.Symbol as bp_rank-at
use Rattle.exports.proofs.read.bp_rank_if_set.Symbol as bp_rank_if_set-at
use Rattle.exports.proofs.read.bp_total_count.Symbol as bp_total_count-at
use Rattle.exports.proofs.read.bp_check.Symbol as bp_check-at
use Rattle.exports.proofs.partition.bp_plan.Symbol as bp_plan-at
use Rattle.exports.proofs.partition.bp_ids.Symbol as bp_ids-at
use Rattle.exports.proofs.partition.bp_ranks.Symbol as bp_ranks-at
use Rattle.exports.proofs.partition.bp_in_partition.Symbol as bp_within-at
use Rattle.exports.proofs.partition.bp_range_meets.Symbol as bp_range_meets-at
use Rattle.exports.proofs.ranges.bp_mark_ends_by_range.Symbol as bp_mark_ends_by_range-at
use Rattle.exports.proofs.ranges.bp_mark_ends_by_partition.Symbol as bp_mark_ends_by_partition-at
use Rattle.exports.proofs.list.bp_get_all.Symbol as bp_get_all-at
use Rattle.exports.proofs.list.bp_rank_all.Symbol as bp_rank_all-at
use Rattle.exports.proofs.list.bp_rank_if_set_all.Symbol as bp_rank_if_set_all-at
use Rattle.exports.proofs.list.bp_insert_all.Symbol as bp_insert_all-at
use Rattle.exports.proofs.number.bp_slots_for_budget.Symbol as bp_slots_for_budget-at
use Rattle.exports.proofs.number.bp_file_bounded_max_id.Symbol as bp_file_bounded_max_id-at
use Rattle.exports.proofs.change.bp_set_up.Met as bp_set_up-met
use Rattle.exports.proofs.change.bp_set_if_new.Met as bp_set_if_new-met
use Rattle.exports.proofs.change.bp_set.Met as bp_set-met
use Rattle.exports.proofs.change.bp_set_prepared.Met as bp_set_prepared-met
use Rattle.exports.proofs.change.bp_pre_allocate.Met as bp_pre_allocate-met
use Rattle.exports.proofs.union.bp_merge_from.Met as bp_merge_from-met
use Rattle.exports.proofs.union.bp_merge.Met as bp_merge-met
use Rattle.exports.proofs.change.bp_into_ranked.Met as bp_into_ranked-met
use Rattle.exports.proofs.change.bp_into_open.Met as bp_leaving-met
use Rattle.exports.proofs.read.bp_get.Met as bp_get-met
use Rattle.exports.proofs.read.bp_chunk_of.Met as bp_chunk_of-met
use Rattle.exports.proofs.read.bp_any_in_range.Met as bp_ranging-met
use Rattle.exports.proofs.read.bp_iter_from.Met as bp_iter_from-met
use Rattle.exports.proofs.read.bp_len.Met as bp_len-met
use Rattle.exports.proofs.read.bp_is_empty.Met as bp_is_empty-met
use Rattle.exports.proofs.read.bp_has_any.Met as bp_has_any-met
use Rattle.exports.proofs.read.bp_allocated_chunk_count.Met as bp_allocated_chunk_count-met
use Rattle.exports.proofs.read.bp_rank.Met as bp_rank-met
use Rattle.exports.proofs.read.bp_rank_if_set.Met as bp_rank_if_set-met
use Rattle.exports.proofs.read.bp_total_count.Met as bp_total_count-met
use Rattle.exports.proofs.read.bp_check.Met as bp_check-met
use Rattle.exports.proofs.partition.bp_plan.Met as bp_plan-met
use Rattle.exports.proofs.partition.bp_ids.Met as bp_ids-met
use Rattle.exports.proofs.partition.bp_ranks.Met as bp_ranks-met
use Rattle.exports.proofs.partition.bp_in_partition.Met as bp_within-met
use Rattle.exports.proofs.partition.bp_range_meets.Met as bp_range_meets-met
use Rattle.exports.proofs.ranges.bp_mark_ends_by_range.Met as bp_mark_ends_by_range-met
use Rattle.exports.proofs.ranges.bp_mark_ends_by_partition.Met as bp_mark_ends_by_partition-met
use Rattle.exports.proofs.list.bp_get_all.Met as bp_get_all-met
use Rattle.exports.proofs.list.bp_rank_all.Met as bp_rank_all-met
use Rattle.exports.proofs.list.bp_rank_if_set_all.Met as bp_rank_if_set_all-met
use Rattle.exports.proofs.list.bp_insert_all.Met as bp_insert_all-met
use Rattle.exports.proofs.number.bp_slots_for_budget.Met as bp_slots_for_budget-met
use Rattle.exports.proofs.number.bp_file_bounded_max_id.Met as bp_file_bounded_max_id-met
use Rattle.document.specs.Results.{Amount, Outcome, Perhaps, Planning, Truth}
use Rattle.std.specs.Prelude.{Ok}

module _ {M : Type 1} {𝓤 : Ura M} (𝓛 : Logic 𝓤) where
  open 𝓛 use {H}

  module _ (m : Memory → SProp 𝓤) (run : Routine → Fun 𝓤) where
    pub bp_set_up_is : bp_set_up.spec 𝓛 m run ≡ Ensures 𝓛 bp_set_up.ended (λ κs a r e. Coded outcome_code (λ (t : Outcome). SetsUp (sizes_of a.0 a.1.0 a.1.1.0 a.1.1.1.0 a.1.1.1.1.0 a.1.1.1.1.1.0) (lent a.1.1.1.1.1.1) t (lent e.1.1.1.1.1.1)) r)
    bp_set_up_is = refl

    pub bp_set_if_new_is : bp_set_if_new.spec 𝓛 m run ≡ Ensures 𝓛 bp_set_if_new.ended (λ κs a r e. Coded truth_code (λ (t : Truth). Does (lent a) (calls.insert a.1.1.1.1.0) (whether t) (lent e)) r)
    bp_set_if_new_is = refl

    pub bp_set_is : bp_set.spec 𝓛 m run ≡ Ensures 𝓛 bp_set.ended (λ κs a r e. Coded outcome_code (λ (t : Outcome). Does (lent a) (calls.put a.1.1.1.1.0) (that t) (lent e)) r)
    bp_set_is = refl

    pub bp_set_prepared_is : bp_set_prepared.spec 𝓛 m run ≡ Ensures 𝓛 bp_set_prepared.ended (λ κs a r e. Coded truth_code (λ (t : Truth). Does (lent a) (calls.prepared a.1.1.1.1.0) (whether t) (lent e)) r)
    bp_set_prepared_is = refl

    pub bp_pre_allocate_is : bp_pre_allocate.spec 𝓛 m run ≡ Ensures 𝓛 bp_pre_allocate.ended (λ κs a r e. Coded outcome_code (λ (t : Outcome). Does (lent a) (calls.prepare a.1.1.1.1.0) (that t) (lent e)) r)
    bp_pre_allocate_is = refl

    pub bp_merge_from_is : bp_merge_from.spec 𝓛 m run ≡ Ensures 𝓛 bp_merge_from.ended (λ κs a r e. Coded outcome_code (λ (t : Outcome). Joins (lent a) (four a.1.1.1.1) union.merge_from t (lent e) (four a.1.1.1.1)) r)
    bp_merge_from_is = refl

    pub bp_merge_is : bp_merge.spec 𝓛 m run ≡ Ensures 𝓛 bp_merge.ended (λ κs a r e. Coded outcome_code (λ (t : Outcome). Joins (lent a) (lent a.1.1.1.1) union.merge t (lent e) (lent e.1.1.1.1)) r)
    bp_merge_is = refl

    pub bp_into_ranked_is : bp_into_ranked.spec 𝓛 m run ≡ Ensures 𝓛 bp_into_ranked.ended (λ κs a r e. Coded outcome_code (λ (t : Outcome). Does (half a) calls.rank_up (that t) (two a e)) r)
    bp_into_ranked_is = refl

    pub bp_into_open_is : bp_leaving.spec 𝓛 m run ≡ Ensures 𝓛 bp_leaving.ended (λ κs a r e. Coded outcome_code (λ (t : Outcome). Does (half a) calls.leave (that t) (two a e)) r)
    bp_into_open_is = refl

    pub bp_get_is : bp_get.spec 𝓛 m run ≡ Ensures 𝓛 bp_get.ended (λ κs a r e. Coded truth_code (λ (t : Truth). Answers (four a) (calls.get a.1.1.1.1.0) (whether t)) r)
    bp_get_is = refl

    pub bp_chunk_of_is : bp_chunk_of.spec 𝓛 m run ≡ Ensures 𝓛 bp_chunk_of.ended (λ κs a r e. Coded perhaps_code (λ (t : Perhaps). Answers (four a) (calls.chunk_id a.1.1.1.1.0) (maybe t)) r)
    bp_chunk_of_is = refl

    pub bp_any_in_range_is : bp_ranging.spec 𝓛 m run ≡ Ensures 𝓛 bp_ranging.ended (λ κs a r e. Coded truth_code (λ (t : Truth). Answers (four a) (calls.range_test a.1.1.1.1.0 a.1.1.1.1.1.0) (whether t)) r)
    bp_any_in_range_is = refl

    pub bp_iter_from_is : bp_iter_from.spec 𝓛 m run ≡ Ensures 𝓛 bp_iter_from.ended (λ κs a r e. Answers (four a) (calls.iterate a.1.1.1.1.0) (listed r))
    bp_iter_from_is = refl

    pub bp_len_is : bp_len.spec 𝓛 m run ≡ Ensures 𝓛 bp_len.ended (λ κs a r e. Coded amount_code (λ (t : Amount). Answers (four a) calls.len (many t)) r)
    bp_len_is = refl

    pub bp_is_empty_is : bp_is_empty.spec 𝓛 m run ≡ Ensures 𝓛 bp_is_empty.ended (λ κs a r e. Coded truth_code (λ (t : Truth). Answers (four a) calls.is_empty (whether t)) r)
    bp_is_empty_is = refl

    pub bp_has_any_is : bp_has_any.spec 𝓛 m run ≡ Ensures 𝓛 bp_has_any.ended (λ κs a r e. Coded truth_code (λ (t : Truth). Answers (four a) calls.has_any (whether t)) r)
    bp_has_any_is = refl

    pub bp_allocated_chunk_count_is : bp_allocated_chunk_count.spec 𝓛 m run ≡ Ensures 𝓛 bp_allocated_chunk_count.ended (λ κs a r e. Coded amount_code (λ (t : Amount). Answers (four a) calls.chunk_count (many t)) r)
    bp_allocated_chunk_count_is = refl

    pub bp_rank_is : bp_rank.spec 𝓛 m run ≡ Ensures 𝓛 bp_rank.ended (λ κs a r e. Coded amount_code (λ (t : Amount). Answers (four a) (calls.rank_of a.1.1.1.1.0) (many t)) r)
    bp_rank_is = refl

    pub bp_rank_if_set_is : bp_rank_if_set.spec 𝓛 m run ≡ Ensures 𝓛 bp_rank_if_set.ended (λ κs a r e. Coded perhaps_code (λ (t : Perhaps). Answers (four a) (calls.rank_if_set a.1.1.1.1.0) (maybe t)) r)
    bp_rank_if_set_is = refl

    pub bp_total_count_is : bp_total_count.spec 𝓛 m run ≡ Ensures 𝓛 bp_total_count.ended (λ κs a r e. Coded amount_code (λ (t : Amount). Answers (four a) calls.total_count (many t)) r)
    bp_total_count_is = refl

    pub bp_check_is : bp_check.spec 𝓛 m run ≡ Ensures 𝓛 bp_check.ended (λ κs a r e. Answers (four a) calls.check (whether (Ok r)))
    bp_check_is = refl

    pub bp_plan_is : bp_plan.spec 𝓛 m run ≡ Ensures 𝓛 bp_plan.ended (λ κs a r e. Coded planning_code (λ (t : Planning). Plans (four a) a.1.1.1.1.0 a.1.1.1.1.1.0.now t e.1.1.1.1.1.0.now) r)
    bp_plan_is = refl

    pub bp_ids_is : bp_ids.spec 𝓛 m run ≡ Ensures 𝓛 bp_ids.ended (λ κs a r e. r ≡ spanned_code (ids_answer (plan_in a.0 a.1.0 a.1.1.0) a.1.1.1.0.now a.1.1.1.1.0))
    bp_ids_is = refl

    pub bp_ranks_is : bp_ranks.spec 𝓛 m run ≡ Ensures 𝓛 bp_ranks.ended (λ κs a r e. r ≡ ranks_code (ranks_answer (plan_in a.0 a.1.0 a.1.1.0) a.1.1.1.0))
    bp_ranks_is = refl

    pub bp_in_partition_is : bp_within.spec 𝓛 m run ≡ Ensures 𝓛 bp_within.ended (λ κs a r e. r ≡ in_partition a.0 (span_in a.1.0 a.1.1.0 a.1.1.1.0))
    bp_in_partition_is = refl

    pub bp_range_meets_is : bp_range_meets.spec 𝓛 m run ≡ Ensures 𝓛 bp_range_meets.ended (λ κs a r e. r ≡ range_meets a.0 a.1.0 (span_in a.1.1.0 a.1.1.1.0 a.1.1.1.1.0))
    bp_range_meets_is = refl

    pub bp_mark_ends_by_range_is : bp_mark_ends_by_range.spec 𝓛 m run ≡ Ensures 𝓛 bp_mark_ends_by_range.ended (λ κs a r e. Coded outcome_code (λ (t : Outcome). EndsByRange (four a.1.1.1) a.0.now a.1.0.now a.1.1.0.now t e.1.1.0.now) r)
    bp_mark_ends_by_range_is = refl

    pub bp_mark_ends_by_partition_is : bp_mark_ends_by_partition.spec 𝓛 m run ≡ Ensures 𝓛 bp_mark_ends_by_partition.ended (λ κs a r e. Coded outcome_code (λ (t : Outcome). EndsByPartition (ids_answer (plan_in a.1.1.1.0 a.1.1.1.1.0 a.1.1.1.1.1.0) a.1.1.1.1.1.1.0.now a.1.1.1.1.1.1.1.0) a.0.now a.1.0.now a.1.1.0.now t e.1.1.0.now) r)
    bp_mark_ends_by_partition_is = refl

    pub bp_get_all_is : bp_get_all.spec 𝓛 m run ≡ Ensures 𝓛 bp_get_all.ended (λ κs a r e. Coded outcome_code (λ (t : Outcome). AnswersAll (four a.1.1) listwise.get_all a.0.now a.1.0.now t e.1.0.now) r)
    bp_get_all_is = refl

    pub bp_rank_all_is : bp_rank_all.spec 𝓛 m run ≡ Ensures 𝓛 bp_rank_all.ended (λ κs a r e. Coded outcome_code (λ (t : Outcome). AnswersAll (four a.1.1) listwise.rank_all a.0.now a.1.0.now t e.1.0.now) r)
    bp_rank_all_is = refl

    pub bp_rank_if_set_all_is : bp_rank_if_set_all.spec 𝓛 m run ≡ Ensures 𝓛 bp_rank_if_set_all.ended (λ κs a r e. Coded outcome_code (λ (t : Outcome). AnswersAll (four a.1.1) listwise.rank_if_all a.0.now a.1.0.now t e.1.0.now) r)
    bp_rank_if_set_all_is = refl

    pub bp_insert_all_is : bp_insert_all.spec 𝓛 m run ≡ Ensures 𝓛 bp_insert_all.ended (λ κs a r e. InsertsAll (lent a.1) a.0.now r (lent e.1))
    bp_insert_all_is = refl

    pub bp_slots_for_budget_is : bp_slots_for_budget.spec 𝓛 m run ≡ Ensures 𝓛 bp_slots_for_budget.ended (λ κs a r e. r ≡ slots_for_budget a.0)
    bp_slots_for_budget_is = refl

    pub bp_file_bounded_max_id_is : bp_file_bounded_max_id.spec 𝓛 m run ≡ Ensures 𝓛 bp_file_bounded_max_id.ended (λ κs a r e. r ≡ file_bounded_max_id a.0 a.1.0 a.1.1.0)
    bp_file_bounded_max_id_is = refl

  module _ (𝓜 : Model 𝓤 H) (𝓡 : Running 𝓤 H 𝓜) where
    pub bp_set_up_meets : Wired 𝓡.env bp_set_up-at.code → Meets 𝓛 bp_set_up.signature (𝓡.run (𝓡.env bp_set_up-at.name))
        (Ensures 𝓛 bp_set_up.ended (λ κs a r e. Coded outcome_code (λ (t : Outcome). SetsUp (sizes_of a.0 a.1.0 a.1.1.0 a.1.1.1.0 a.1.1.1.1.0 a.1.1.1.1.1.0) (lent a.1.1.1.1.1.1) t (lent e.1.1.1.1.1.1)) r))
    bp_set_up_meets = bp_set_up-met.met 𝓤 𝓛 𝓜 𝓡

    pub bp_set_if_new_meets : Wired 𝓡.env bp_set_if_new-at.code → Meets 𝓛 bp_set_if_new.signature (𝓡.run (𝓡.env bp_set_if_new-at.name))
        (Ensures 𝓛 bp_set_if_new.ended (λ κs a r e. Coded truth_code (λ (t : Truth). Does (lent a) (calls.insert a.1.1.1.1.0) (whether t) (lent e)) r))
    bp_set_if_new_meets = bp_set_if_new-met.met 𝓤 𝓛 𝓜 𝓡

    pub bp_set_meets : Wired 𝓡.env bp_set-at.code → Meets 𝓛 bp_set.signature (𝓡.run (𝓡.env bp_set-at.name))
        (Ensures 𝓛 bp_set.ended (λ κs a r e. Coded outcome_code (λ (t : Outcome). Does (lent a) (calls.put a.1.1.1.1.0) (that t) (lent e)) r))
    bp_set_meets = bp_set-met.met 𝓤 𝓛 𝓜 𝓡

    pub bp_set_prepared_meets : Wired 𝓡.env bp_set_prepared-at.code → Meets 𝓛 bp_set_prepared.signature (𝓡.run (𝓡.env bp_set_prepared-at.name))
        (Ensures 𝓛 bp_set_prepared.ended (λ κs a r e. Coded truth_code (λ (t : Truth). Does (lent a) (calls.prepared a.1.1.1.1.0) (whether t) (lent e)) r))
    bp_set_prepared_meets = bp_set_prepared-met.met 𝓤 𝓛 𝓜 𝓡

    pub bp_pre_allocate_meets : Wired 𝓡.env bp_pre_allocate-at.code → Meets 𝓛 bp_pre_allocate.signature (𝓡.run (𝓡.env bp_pre_allocate-at.name))
        (Ensures 𝓛 bp_pre_allocate.ended (λ κs a r e. Coded outcome_code (λ (t : Outcome). Does (lent a) (calls.prepare a.1.1.1.1.0) (that t) (lent e)) r))
    bp_pre_allocate_meets = bp_pre_allocate-met.met 𝓤 𝓛 𝓜 𝓡

    pub bp_merge_from_meets : Wired 𝓡.env bp_merge_from-at.code → Meets 𝓛 bp_merge_from.signature (𝓡.run (𝓡.env bp_merge_from-at.name))
        (Ensures 𝓛 bp_merge_from.ended (λ κs a r e. Coded outcome_code (λ (t : Outcome). Joins (lent a) (four a.1.1.1.1) union.merge_from t (lent e) (four a.1.1.1.1)) r))
    bp_merge_from_meets = bp_merge_from-met.met 𝓤 𝓛 𝓜 𝓡

    pub bp_merge_meets : Wired 𝓡.env bp_merge-at.code → Meets 𝓛 bp_merge.signature (𝓡.run (𝓡.env bp_merge-at.name))
        (Ensures 𝓛 bp_merge.ended (λ κs a r e. Coded outcome_code (λ (t : Outcome). Joins (lent a) (lent a.1.1.1.1) union.merge t (lent e) (lent e.1.1.1.1)) r))
    bp_merge_meets = bp_merge-met.met 𝓤 𝓛 𝓜 𝓡

    pub bp_into_ranked_meets : Wired 𝓡.env bp_into_ranked-at.code → Meets 𝓛 bp_into_ranked.signature (𝓡.run (𝓡.env bp_into_ranked-at.name))
        (Ensures 𝓛 bp_into_ranked.ended (λ κs a r e. Coded outcome_code (λ (t : Outcome). Does (half a) calls.rank_up (that t) (two a e)) r))
    bp_into_ranked_meets = bp_into_ranked-met.met 𝓤 𝓛 𝓜 𝓡

    pub bp_into_open_meets : Wired 𝓡.env bp_leaving-at.code → Meets 𝓛 bp_leaving.signature (𝓡.run (𝓡.env bp_leaving-at.name))
        (Ensures 𝓛 bp_leaving.ended (λ κs a r e. Coded outcome_code (λ (t : Outcome). Does (half a) calls.leave (that t) (two a e)) r))
    bp_into_open_meets = bp_leaving-met.met 𝓤 𝓛 𝓜 𝓡

    pub bp_get_meets : Wired 𝓡.env bp_get-at.code → Meets 𝓛 bp_get.signature (𝓡.run (𝓡.env bp_get-at.name))
        (Ensures 𝓛 bp_get.ended (λ κs a r e. Coded truth_code (λ (t : Truth). Answers (four a) (calls.get a.1.1.1.1.0) (whether t)) r))
    bp_get_meets = bp_get-met.met 𝓤 𝓛 𝓜 𝓡

    pub bp_chunk_of_meets : Wired 𝓡.env bp_chunk_of-at.code → Meets 𝓛 bp_chunk_of.signature (𝓡.run (𝓡.env bp_chunk_of-at.name))
        (Ensures 𝓛 bp_chunk_of.ended (λ κs a r e. Coded perhaps_code (λ (t : Perhaps). Answers (four a) (calls.chunk_id a.1.1.1.1.0) (maybe t)) r))
    bp_chunk_of_meets = bp_chunk_of-met.met 𝓤 𝓛 𝓜 𝓡

    pub bp_any_in_range_meets : Wired 𝓡.env bp_ranging-at.code → Meets 𝓛 bp_ranging.signature (𝓡.run (𝓡.env bp_ranging-at.name))
        (Ensures 𝓛 bp_ranging.ended (λ κs a r e. Coded truth_code (λ (t : Truth). Answers (four a) (calls.range_test a.1.1.1.1.0 a.1.1.1.1.1.0) (whether t)) r))
    bp_any_in_range_meets = bp_ranging-met.met 𝓤 𝓛 𝓜 𝓡

    pub bp_iter_from_meets : Wired 𝓡.env bp_iter_from-at.code → Meets 𝓛 bp_iter_from.signature (𝓡.run (𝓡.env bp_iter_from-at.name))
        (Ensures 𝓛 bp_iter_from.ended (λ κs a r e. Answers (four a) (calls.iterate a.1.1.1.1.0) (listed r)))
    bp_iter_from_meets = bp_iter_from-met.met 𝓤 𝓛 𝓜 𝓡

    pub bp_len_meets : Wired 𝓡.env bp_len-at.code → Meets 𝓛 bp_len.signature (𝓡.run (𝓡.env bp_len-at.name))
        (Ensures 𝓛 bp_len.ended (λ κs a r e. Coded amount_code (λ (t : Amount). Answers (four a) calls.len (many t)) r))
    bp_len_meets = bp_len-met.met 𝓤 𝓛 𝓜 𝓡

    pub bp_is_empty_meets : Wired 𝓡.env bp_is_empty-at.code → Meets 𝓛 bp_is_empty.signature (𝓡.run (𝓡.env bp_is_empty-at.name))
        (Ensures 𝓛 bp_is_empty.ended (λ κs a r e. Coded truth_code (λ (t : Truth). Answers (four a) calls.is_empty (whether t)) r))
    bp_is_empty_meets = bp_is_empty-met.met 𝓤 𝓛 𝓜 𝓡

    pub bp_has_any_meets : Wired 𝓡.env bp_has_any-at.code → Meets 𝓛 bp_has_any.signature (𝓡.run (𝓡.env bp_has_any-at.name))
        (Ensures 𝓛 bp_has_any.ended (λ κs a r e. Coded truth_code (λ (t : Truth). Answers (four a) calls.has_any (whether t)) r))
    bp_has_any_meets = bp_has_any-met.met 𝓤 𝓛 𝓜 𝓡

    pub bp_allocated_chunk_count_meets : Wired 𝓡.env bp_allocated_chunk_count-at.code → Meets 𝓛 bp_allocated_chunk_count.signature (𝓡.run (𝓡.env bp_allocated_chunk_count-at.name))
        (Ensures 𝓛 bp_allocated_chunk_count.ended (λ κs a r e. Coded amount_code (λ (t : Amount). Answers (four a) calls.chunk_count (many t)) r))
    bp_allocated_chunk_count_meets = bp_allocated_chunk_count-met.met 𝓤 𝓛 𝓜 𝓡

    pub bp_rank_meets : Wired 𝓡.env bp_rank-at.code → Meets 𝓛 bp_rank.signature (𝓡.run (𝓡.env bp_rank-at.name))
        (Ensures 𝓛 bp_rank.ended (λ κs a r e. Coded amount_code (λ (t : Amount). Answers (four a) (calls.rank_of a.1.1.1.1.0) (many t)) r))
    bp_rank_meets = bp_rank-met.met 𝓤 𝓛 𝓜 𝓡

    pub bp_rank_if_set_meets : Wired 𝓡.env bp_rank_if_set-at.code → Meets 𝓛 bp_rank_if_set.signature (𝓡.run (𝓡.env bp_rank_if_set-at.name))
        (Ensures 𝓛 bp_rank_if_set.ended (λ κs a r e. Coded perhaps_code (λ (t : Perhaps). Answers (four a) (calls.rank_if_set a.1.1.1.1.0) (maybe t)) r))
    bp_rank_if_set_meets = bp_rank_if_set-met.met 𝓤 𝓛 𝓜 𝓡

    pub bp_total_count_meets : Wired 𝓡.env bp_total_count-at.code → Meets 𝓛 bp_total_count.signature (𝓡.run (𝓡.env bp_total_count-at.name))
        (Ensures 𝓛 bp_total_count.ended (λ κs a r e. Coded amount_code (λ (t : Amount). Answers (four a) calls.total_count (many t)) r))
    bp_total_count_meets = bp_total_count-met.met 𝓤 𝓛 𝓜 𝓡

    pub bp_check_meets : Wired 𝓡.env bp_check-at.code → Meets 𝓛 bp_check.signature (𝓡.run (𝓡.env bp_check-at.name))
        (Ensures 𝓛 bp_check.ended (λ κs a r e. Answers (four a) calls.check (whether (Ok r))))
    bp_check_meets = bp_check-met.met 𝓤 𝓛 𝓜 𝓡

    pub bp_plan_meets : Wired 𝓡.env bp_plan-at.code → Meets 𝓛 bp_plan.signature (𝓡.run (𝓡.env bp_plan-at.name))
        (Ensures 𝓛 bp_plan.ended (λ κs a r e. Coded planning_code (λ (t : Planning). Plans (four a) a.1.1.1.1.0 a.1.1.1.1.1.0.now t e.1.1.1.1.1.0.now) r))
    bp_plan_meets = bp_plan-met.met 𝓤 𝓛 𝓜 𝓡

    pub bp_ids_meets : Wired 𝓡.env bp_ids-at.code → Meets 𝓛 bp_ids.signature (𝓡.run (𝓡.env bp_ids-at.name))
        (Ensures 𝓛 bp_ids.ended (λ κs a r e. r ≡ spanned_code (ids_answer (plan_in a.0 a.1.0 a.1.1.0) a.1.1.1.0.now a.1.1.1.1.0)))
    bp_ids_meets = bp_ids-met.met 𝓤 𝓛 𝓜 𝓡

    pub bp_ranks_meets : Wired 𝓡.env bp_ranks-at.code → Meets 𝓛 bp_ranks.signature (𝓡.run (𝓡.env bp_ranks-at.name))
        (Ensures 𝓛 bp_ranks.ended (λ κs a r e. r ≡ ranks_code (ranks_answer (plan_in a.0 a.1.0 a.1.1.0) a.1.1.1.0)))
    bp_ranks_meets = bp_ranks-met.met 𝓤 𝓛 𝓜 𝓡

    pub bp_in_partition_meets : Wired 𝓡.env bp_within-at.code → Meets 𝓛 bp_within.signature (𝓡.run (𝓡.env bp_within-at.name))
        (Ensures 𝓛 bp_within.ended (λ κs a r e. r ≡ in_partition a.0 (span_in a.1.0 a.1.1.0 a.1.1.1.0)))
    bp_in_partition_meets = bp_within-met.met 𝓤 𝓛 𝓜 𝓡

    pub bp_range_meets_meets : Wired 𝓡.env bp_range_meets-at.code → Meets 𝓛 bp_range_meets.signature (𝓡.run (𝓡.env bp_range_meets-at.name))
        (Ensures 𝓛 bp_range_meets.ended (λ κs a r e. r ≡ range_meets a.0 a.1.0 (span_in a.1.1.0 a.1.1.1.0 a.1.1.1.1.0)))
    bp_range_meets_meets = bp_range_meets-met.met 𝓤 𝓛 𝓜 𝓡

    pub bp_mark_ends_by_range_meets : Wired 𝓡.env bp_mark_ends_by_range-at.code → Meets 𝓛 bp_mark_ends_by_range.signature (𝓡.run (𝓡.env bp_mark_ends_by_range-at.name))
        (Ensures 𝓛 bp_mark_ends_by_range.ended (λ κs a r e. Coded outcome_code (λ (t : Outcome). EndsByRange (four a.1.1.1) a.0.now a.1.0.now a.1.1.0.now t e.1.1.0.now) r))
    bp_mark_ends_by_range_meets = bp_mark_ends_by_range-met.met 𝓤 𝓛 𝓜 𝓡

    pub bp_mark_ends_by_partition_meets : Wired 𝓡.env bp_mark_ends_by_partition-at.code → Meets 𝓛 bp_mark_ends_by_partition.signature (𝓡.run (𝓡.env bp_mark_ends_by_partition-at.name))
        (Ensures 𝓛 bp_mark_ends_by_partition.ended (λ κs a r e. Coded outcome_code (λ (t : Outcome). EndsByPartition (ids_answer (plan_in a.1.1.1.0 a.1.1.1.1.0 a.1.1.1.1.1.0) a.1.1.1.1.1.1.0.now a.1.1.1.1.1.1.1.0) a.0.now a.1.0.now a.1.1.0.now t e.1.1.0.now) r))
    bp_mark_ends_by_partition_meets = bp_mark_ends_by_partition-met.met 𝓤 𝓛 𝓜 𝓡

    pub bp_get_all_meets : Wired 𝓡.env bp_get_all-at.code → Meets 𝓛 bp_get_all.signature (𝓡.run (𝓡.env bp_get_all-at.name))
        (Ensures 𝓛 bp_get_all.ended (λ κs a r e. Coded outcome_code (λ (t : Outcome). AnswersAll (four a.1.1) listwise.get_all a.0.now a.1.0.now t e.1.0.now) r))
    bp_get_all_meets = bp_get_all-met.met 𝓤 𝓛 𝓜 𝓡

    pub bp_rank_all_meets : Wired 𝓡.env bp_rank_all-at.code → Meets 𝓛 bp_rank_all.signature (𝓡.run (𝓡.env bp_rank_all-at.name))
        (Ensures 𝓛 bp_rank_all.ended (λ κs a r e. Coded outcome_code (λ (t : Outcome). AnswersAll (four a.1.1) listwise.rank_all a.0.now a.1.0.now t e.1.0.now) r))
    bp_rank_all_meets = bp_rank_all-met.met 𝓤 𝓛 𝓜 𝓡

    pub bp_rank_if_set_all_meets : Wired 𝓡.env bp_rank_if_set_all-at.code → Meets 𝓛 bp_rank_if_set_all.signature (𝓡.run (𝓡.env bp_rank_if_set_all-at.name))
        (Ensures 𝓛 bp_rank_if_set_all.ended (λ κs a r e. Coded outcome_code (λ (t : Outcome). AnswersAll (four a.1.1) listwise.rank_if_all a.0.now a.1.0.now t e.1.0.now) r))
    bp_rank_if_set_all_meets = bp_rank_if_set_all-met.met 𝓤 𝓛 𝓜 𝓡

    pub bp_insert_all_meets : Wired 𝓡.env bp_insert_all-at.code → Meets 𝓛 bp_insert_all.signature (𝓡.run (𝓡.env bp_insert_all-at.name))
        (Ensures 𝓛 bp_insert_all.ended (λ κs a r e. InsertsAll (lent a.1) a.0.now r (lent e.1)))
    bp_insert_all_meets = bp_insert_all-met.met 𝓤 𝓛 𝓜 𝓡

    pub bp_slots_for_budget_meets : Wired 𝓡.env bp_slots_for_budget-at.code → Meets 𝓛 bp_slots_for_budget.signature (𝓡.run (𝓡.env bp_slots_for_budget-at.name))
        (Ensures 𝓛 bp_slots_for_budget.ended (λ κs a r e. r ≡ slots_for_budget a.0))
    bp_slots_for_budget_meets = bp_slots_for_budget-met.met 𝓤 𝓛 𝓜 𝓡

    pub bp_file_bounded_max_id_meets : Wired 𝓡.env bp_file_bounded_max_id-at.code → Meets 𝓛 bp_file_bounded_max_id.signature (𝓡.run (𝓡.env bp_file_bounded_max_id-at.name))
        (Ensures 𝓛 bp_file_bounded_max_id.ended (λ κs a r e. r ≡ file_bounded_max_id a.0 a.1.0 a.1.1.0))
    bp_file_bounded_max_id_meets = bp_file_bounded_max_id-met.met 𝓤 𝓛 𝓜 𝓡

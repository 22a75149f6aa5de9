-- The contract of every entry of the archive for C, under its symbol, is that of exports, whole (for which ties says what it ensures), and the entry meets it. Assumes nothing.
use mathlib.Core.Path.{◌≡◌, refl}
use seplogic.Ra.Ura.{Ura}
use prog.Memory.{Memory}
use prog.Routine.{Routine}
use prog.Model.{Model}
use prog.Wired.{Wired}
use base.Logic.{SProp}
use types.Logic.{Logic}
use contract.Monad.{Fun}
use contract.Running.{Running}
use denote.Triple.Spec.{Meets}
use Rattle.exports.specs.contracts.change.bp_set_up as bp_set_up
use Rattle.exports.specs.contracts.change.bp_set_if_new as bp_set_if_new
use Rattle.exports.specs.contracts.change.bp_set as bp_set
use Rattle.exports.specs.contracts.change.bp_set_prepared as bp_set_prepared
use Rattle.exports.specs.contracts.change.bp_pre_allocate as bp_pre_allocate
use Rattle.exports.specs.contracts.union.bp_merge_from as bp_merge_from
use Rattle.exports.specs.contracts.union.bp_merge as bp_merge
use Rattle.exports.specs.contracts.change.bp_into_ranked as bp_into_ranked
use Rattle.exports.specs.contracts.change.bp_into_open as bp_into_open
use Rattle.exports.specs.contracts.read.bp_get as bp_get
use Rattle.exports.specs.contracts.read.bp_chunk_of as bp_chunk_of
use Rattle.exports.specs.contracts.read.bp_any_in_range as bp_any_in_range
use Rattle.exports.specs.contracts.read.bp_iter_from as bp_iter_from
use Rattle.exports.specs.contracts.read.bp_len as bp_len
use Rattle.exports.specs.contracts.read.bp_is_empty as bp_is_empty
use Rattle.exports.specs.contracts.read.bp_has_any as bp_has_any
use Rattle.exports.specs.contracts.read.bp_allocated_chunk_count as bp_allocated_chunk_count
use Rattle.exports.specs.contracts.read.bp_rank as bp_rank
use Rattle.exports.specs.contracts.read.bp_rank_if_set as bp_rank_if_set
use Rattle.exports.specs.contracts.read.bp_total_count as bp_total_count
use Rattle.exports.specs.contracts.read.bp_check as bp_check
use Rattle.exports.specs.contracts.partition.bp_plan as bp_plan
use Rattle.exports.specs.contracts.partition.bp_ids as bp_ids
use Rattle.exports.specs.contracts.partition.bp_ranks as bp_ranks
use Rattle.exports.specs.contracts.partition.bp_in_partition as bp_in_partition
use Rattle.exports.specs.contracts.partition.bp_range_meets as bp_range_meets
use Rattle.exports.specs.contracts.ranges.bp_mark_ends_by_range as bp_mark_ends_by_range
use Rattle.exports.specs.contracts.ranges.bp_mark_ends_by_partition as bp_mark_ends_by_partition
use Rattle.exports.specs.contracts.list.bp_get_all as bp_get_all
use Rattle.exports.specs.contracts.list.bp_rank_all as bp_rank_all
use Rattle.exports.specs.contracts.list.bp_rank_if_set_all as bp_rank_if_set_all
use Rattle.exports.specs.contracts.list.bp_insert_all as bp_insert_all
use Rattle.exports.specs.contracts.number.bp_slots_for_budget as bp_slots_for_budget
use Rattle.exports.specs.contracts.number.bp_file_bounded_max_id as bp_file_bounded_max_id
use Rattle.exports_c.specs.contracts.change.bp_set_up as archive_bp_set_up
use Rattle.exports_c.specs.contracts.change.bp_set_if_new as archive_bp_set_if_new
use Rattle.exports_c.specs.contracts.change.bp_set as archive_bp_set
use Rattle.exports_c.specs.contracts.change.bp_set_prepared as archive_bp_set_prepared
use Rattle.exports_c.specs.contracts.change.bp_pre_allocate as archive_bp_pre_allocate
use Rattle.exports_c.specs.contracts.union.bp_merge_from as archive_bp_merge_from
use Rattle.exports_c.specs.contracts.union.bp_merge as archive_bp_merge
use Rattle.exports_c.specs.contracts.change.bp_into_ranked as archive_bp_into_ranked
use Rattle.exports_c.specs.contracts.change.bp_into_open as archive_bp_into_open
use Rattle.exports_c.specs.contracts.read.bp_get as archive_bp_get
use Rattle.exports_c.specs.contracts.read.bp_chunk_of as archive_bp_chunk_of
use Rattle.exports_c.specs.contracts.read.bp_any_in_range as archive_bp_any_in_range
use Rattle.exports_c.specs.contracts.read.bp_iter_from as archive_bp_iter_from
use Rattle.exports_c.specs.contracts.read.bp_len as archive_bp_len
use Rattle.exports_c.specs.contracts.read.bp_is_empty as archive_bp_is_empty
use Rattle.exports_c.specs.contracts.read.bp_has_any as archive_bp_has_any
use Rattle.exports_c.specs.contracts.read.bp_allocated_chunk_count as archive_bp_allocated_chunk_count
use Rattle.exports_c.specs.contracts.read.bp_rank as archive_bp_rank
use Rattle.exports_c.specs.contracts.read.bp_rank_if_set as archive_bp_rank_if_set
use Rattle.exports_c.specs.contracts.read.bp_total_count as archive_bp_total_count
use Rattle.exports_c.specs.contracts.read.bp_check as archive_bp_check
use Rattle.exports_c.specs.contracts.partition.bp_plan as archive_bp_plan
use Rattle.exports_c.specs.contracts.partition.bp_ids as archive_bp_ids
use Rattle.exports_c.specs.contracts.partition.bp_ranks as archive_bp_ranks
use Rattle.exports_c.specs.contracts.partition.bp_in_partition as archive_bp_in_partition
use Rattle.exports_c.specs.contracts.partition.bp_range_meets as archive_bp_range_meets
use Rattle.exports_c.specs.contracts.ranges.bp_mark_ends_by_range as archive_bp_mark_ends_by_range
use Rattle.exports_c.specs.contracts.ranges.bp_mark_ends_by_partition as archive_bp_mark_ends_by_partition
use Rattle.exports_c.specs.contracts.list.bp_get_all as archive_bp_get_all
use Rattle.exports_c.specs.contracts.list.bp_rank_all as archive_bp_rank_all
use Rattle.exports_c.specs.contracts.list.bp_rank_if_set_all as archive_bp_rank_if_set_all
use Rattle.exports_c.specs.contracts.list.bp_insert_all as archive_bp_insert_all
use Rattle.exports_c.specs.contracts.number.bp_slots_for_budget as archive_bp_slots_for_budget
use Rattle.exports_c.specs.contracts.number.bp_file_bounded_max_id as archive_bp_file_bounded_max_id
use Rattle.exports_c.proofs.change.bp_set_up.Symbol as bp_set_up-at
use Rattle.exports_c.proofs.change.bp_set_if_new.Symbol as bp_set_if_new-at
use Rattle.exports_c.proofs.change.bp_set.Symbol as bp_set-at
use Rattle.exports_c.proofs.change.bp_set_prepared.Symbol as bp_set_prepared-at
use Rattle.exports_c.proofs.change.bp_pre_allocate.Symbol as bp_pre_allocate-at
use Rattle.exports_c.proofs.union.bp_merge_from.Symbol as bp_merge_from-at
use Rattle.exports_c.proofs.union.bp_merge.Symbol as bp_merge-at
use Rattle.exports_c.proofs.change.bp_into_ranked.Symbol as bp_into_ranked-at
use Rattle.exports_c.proofs.change.bp_into_open.Symbol as bp_into_open-at
use Rattle.exports_c.proofs.read.bp_get.Symbol as bp_get-at
use Rattle.exports_c.proofs.read.bp_chunk_of.Symbol as bp_chunk_of-at
use Rattle.exports_c.proofs.read.bp_any_in_range.Symbol as bp_any_in_range-at
use Rattle.exports_c.proofs.read.bp_iter_from.Symbol as bp_iter_from-at
use Rattle.exports_c.proofs.read.bp_len.Symbol as bp_len-at
use Rattle.exports_c.proofs.read.bp_is_empty.Symbol as bp_is_empty-at
use Rattle.exports_c.proofs.read.bp_has_any.Symbol as bp_has_any-at
use Rattle.exports_c.proofs.read.bp_allocated_chunk_count.Symbol as bp_allocated_chunk_count-at
use Rattle.exports_c.proofs.read.bp_rank.Symbol as bp_rank-at
use Rattle.exports_c.proofs.read.bp_rank_if_set.Symbol as bp_rank_if_set-at
use Rattle.exports_c.proofs.read.bp_total_count.Symbol as bp_total_count-at
use Rattle.exports_c.proofs.read.bp_check.Symbol as bp_check-at
use Rattle.exports_c.proofs.partition.bp_plan.Symbol as bp_plan-at
use Rattle.exports_c.proofs.partition.bp_ids.Symbol as bp_ids-at
use Rattle.exports_c.proofs.partition.bp_ranks.Symbol as bp_ranks-at
use Rattle.exports_c.proofs.partition.bp_in_partition.Symbol as bp_in_partition-at
use Rattle.exports_c.proofs.partition.bp_range_meets.Symbol as bp_range_meets-at
use Rattle.exports_c.proofs.ranges.bp_mark_ends_by_range.Symbol as bp_mark_ends_by_range-at
use Rattle.exports_c.proofs.ranges.bp_mark_ends_by_partition.Symbol as bp_mark_ends_by_partition-at
use Rattle.exports_c.proofs.list.bp_get_all.Symbol as bp_get_all-at
use Rattle.exports_c.proofs.list.bp_rank_all.Symbol as bp_rank_all-at
use Rattle.exports_c.proofs.list.bp_rank_if_set_all.Symbol as bp_rank_if_set_all-at
use Rattle.exports_c.proofs.list.bp_insert_all.Symbol as bp_insert_all-at
use Rattle.exports_c.proofs.number.bp_slots_for_budget.Symbol as bp_slots_for_budget-at
use Rattle.exports_c.proofs.number.bp_file_bounded_max_id.Symbol as bp_file_bounded_max_id-at
use Rattle.exports_c.proofs.change.bp_set_up.Met as bp_set_up-met
use Rattle.exports_c.proofs.change.bp_set_if_new.Met as bp_set_if_new-met
use Rattle.exports_c.proofs.change.bp_set.Met as bp_set-met
use Rattle.exports_c.proofs.change.bp_set_prepared.Met as bp_set_prepared-met
use Rattle.exports_c.proofs.change.bp_pre_allocate.Met as bp_pre_allocate-met
use Rattle.exports_c.proofs.union.bp_merge_from.Met as bp_merge_from-met
use Rattle.exports_c.proofs.union.bp_merge.Met as bp_merge-met
use Rattle.exports_c.proofs.change.bp_into_ranked.Met as bp_into_ranked-met
use Rattle.exports_c.proofs.change.bp_into_open.Met as bp_into_open-met
use Rattle.exports_c.proofs.read.bp_get.Met as bp_get-met
use Rattle.exports_c.proofs.read.bp_chunk_of.Met as bp_chunk_of-met
use Rattle.exports_c.proofs.read.bp_any_in_range.Met as bp_any_in_range-met
use Rattle.exports_c.proofs.read.bp_iter_from.Met as bp_iter_from-met
use Rattle.exports_c.proofs.read.bp_len.Met as bp_len-met
use Rattle.exports_c.proofs.read.bp_is_empty.Met as bp_is_empty-met
use Rattle.exports_c.proofs.read.bp_has_any.Met as bp_has_any-met
use Rattle.exports_c.proofs.read.bp_allocated_chunk_count.Met as bp_allocated_chunk_count-met
use Rattle.exports_c.proofs.read.bp_rank.Met as bp_rank-met
use Rattle.exports_c.proofs.read.bp_rank_if_set.Met as bp_rank_if_set-met
use Rattle.exports_c.proofs.read.bp_total_count.Met as bp_total_count-met
use Rattle.exports_c.proofs.read.bp_check.Met as bp_check-met
use Rattle.exports_c.proofs.partition.bp_plan.Met as bp_plan-met
use Rattle.exports_c.proofs.partition.bp_ids.Met as bp_ids-met
use Rattle.exports_c.proofs.partition.bp_ranks.Met as bp_ranks-met
use Rattle.exports_c.proofs.partition.bp_in_partition.Met as bp_in_partition-met
use Rattle.exports_c.proofs.partition.bp_range_meets.Met as bp_range_meets-met
use Rattle.exports_c.proofs.ranges.bp_mark_ends_by_range.Met as bp_mark_ends_by_range-met
use Rattle.exports_c.proofs.ranges.bp_mark_ends_by_partition.Met as bp_mark_ends_by_partition-met
use Rattle.exports_c.proofs.list.bp_get_all.Met as bp_get_all-met
use Rattle.exports_c.proofs.list.bp_rank_all.Met as bp_rank_all-met
use Rattle.exports_c.proofs.list.bp_rank_if_set_all.Met as bp_rank_if_set_all-met
use Rattle.exports_c.proofs.list.bp_insert_all.Met as bp_insert_all-met
use Rattle.exports_c.proofs.number.bp_slots_for_budget.Met as bp_slots_for_budget-met
use Rattle.exports_c.proofs.number.bp_file_bounded_max_id.Met as bp_file_bounded_max_id-met

module _ {M : Type 1} {𝓤 : Ura M} (𝓛 : Logic 𝓤) where
  open 𝓛 use {H}

  module _ (m : Memory → SProp 𝓤) (run : Routine → Fun 𝓤) where
    pub bp_set_up_is : archive_bp_set_up.spec 𝓛 m run ≡ bp_set_up.spec 𝓛 m run
    bp_set_up_is = refl

    pub bp_set_if_new_is : archive_bp_set_if_new.spec 𝓛 m run ≡ bp_set_if_new.spec 𝓛 m run
    bp_set_if_new_is = refl

    pub bp_set_is : archive_bp_set.spec 𝓛 m run ≡ bp_set.spec 𝓛 m run
    bp_set_is = refl

    pub bp_set_prepared_is : archive_bp_set_prepared.spec 𝓛 m run ≡ bp_set_prepared.spec 𝓛 m run
    bp_set_prepared_is = refl

    pub bp_pre_allocate_is : archive_bp_pre_allocate.spec 𝓛 m run ≡ bp_pre_allocate.spec 𝓛 m run
    bp_pre_allocate_is = refl

    pub bp_merge_from_is : archive_bp_merge_from.spec 𝓛 m run ≡ bp_merge_from.spec 𝓛 m run
    bp_merge_from_is = refl

    pub bp_merge_is : archive_bp_merge.spec 𝓛 m run ≡ bp_merge.spec 𝓛 m run
    bp_merge_is = refl

    pub bp_into_ranked_is : archive_bp_into_ranked.spec 𝓛 m run ≡ bp_into_ranked.spec 𝓛 m run
    bp_into_ranked_is = refl

    pub bp_into_open_is : archive_bp_into_open.spec 𝓛 m run ≡ bp_into_open.spec 𝓛 m run
    bp_into_open_is = refl

    pub bp_get_is : archive_bp_get.spec 𝓛 m run ≡ bp_get.spec 𝓛 m run
    bp_get_is = refl

    pub bp_chunk_of_is : archive_bp_chunk_of.spec 𝓛 m run ≡ bp_chunk_of.spec 𝓛 m run
    bp_chunk_of_is = refl

    pub bp_any_in_range_is : archive_bp_any_in_range.spec 𝓛 m run ≡ bp_any_in_range.spec 𝓛 m run
    bp_any_in_range_is = refl

    pub bp_iter_from_is : archive_bp_iter_from.spec 𝓛 m run ≡ bp_iter_from.spec 𝓛 m run
    bp_iter_from_is = refl

    pub bp_len_is : archive_bp_len.spec 𝓛 m run ≡ bp_len.spec 𝓛 m run
    bp_len_is = refl

    pub bp_is_empty_is : archive_bp_is_empty.spec 𝓛 m run ≡ bp_is_empty.spec 𝓛 m run
    bp_is_empty_is = refl

    pub bp_has_any_is : archive_bp_has_any.spec 𝓛 m run ≡ bp_has_any.spec 𝓛 m run
    bp_has_any_is = refl

    pub bp_allocated_chunk_count_is : archive_bp_allocated_chunk_count.spec 𝓛 m run ≡ bp_allocated_chunk_count.spec 𝓛 m run
    bp_allocated_chunk_count_is = refl

    pub bp_rank_is : archive_bp_rank.spec 𝓛 m run ≡ bp_rank.spec 𝓛 m run
    bp_rank_is = refl

    pub bp_rank_if_set_is : archive_bp_rank_if_set.spec 𝓛 m run ≡ bp_rank_if_set.spec 𝓛 m run
    bp_rank_if_set_is = refl

    pub bp_total_count_is : archive_bp_total_count.spec 𝓛 m run ≡ bp_total_count.spec 𝓛 m run
    bp_total_count_is = refl

    pub bp_check_is : archive_bp_check.spec 𝓛 m run ≡ bp_check.spec 𝓛 m run
    bp_check_is = refl

    pub bp_plan_is : archive_bp_plan.spec 𝓛 m run ≡ bp_plan.spec 𝓛 m run
    bp_plan_is = refl

    pub bp_ids_is : archive_bp_ids.spec 𝓛 m run ≡ bp_ids.spec 𝓛 m run
    bp_ids_is = refl

    pub bp_ranks_is : archive_bp_ranks.spec 𝓛 m run ≡ bp_ranks.spec 𝓛 m run
    bp_ranks_is = refl

    pub bp_in_partition_is : archive_bp_in_partition.spec 𝓛 m run ≡ bp_in_partition.spec 𝓛 m run
    bp_in_partition_is = refl

    pub bp_range_meets_is : archive_bp_range_meets.spec 𝓛 m run ≡ bp_range_meets.spec 𝓛 m run
    bp_range_meets_is = refl

    pub bp_mark_ends_by_range_is : archive_bp_mark_ends_by_range.spec 𝓛 m run ≡ bp_mark_ends_by_range.spec 𝓛 m run
    bp_mark_ends_by_range_is = refl

    pub bp_mark_ends_by_partition_is : archive_bp_mark_ends_by_partition.spec 𝓛 m run ≡ bp_mark_ends_by_partition.spec 𝓛 m run
    bp_mark_ends_by_partition_is = refl

    pub bp_get_all_is : archive_bp_get_all.spec 𝓛 m run ≡ bp_get_all.spec 𝓛 m run
    bp_get_all_is = refl

    pub bp_rank_all_is : archive_bp_rank_all.spec 𝓛 m run ≡ bp_rank_all.spec 𝓛 m run
    bp_rank_all_is = refl

    pub bp_rank_if_set_all_is : archive_bp_rank_if_set_all.spec 𝓛 m run ≡ bp_rank_if_set_all.spec 𝓛 m run
    bp_rank_if_set_all_is = refl

    pub bp_insert_all_is : archive_bp_insert_all.spec 𝓛 m run ≡ bp_insert_all.spec 𝓛 m run
    bp_insert_all_is = refl

    pub bp_slots_for_budget_is : archive_bp_slots_for_budget.spec 𝓛 m run ≡ bp_slots_for_budget.spec 𝓛 m run
    bp_slots_for_budget_is = refl

    pub bp_file_bounded_max_id_is : archive_bp_file_bounded_max_id.spec 𝓛 m run ≡ bp_file_bounded_max_id.spec 𝓛 m run
    bp_file_bounded_max_id_is = refl

  module _ (𝓜 : Model 𝓤 H) (𝓡 : Running 𝓤 H 𝓜) where
    pub bp_set_up_meets : Wired 𝓡.env bp_set_up-at.code → Meets 𝓛 bp_set_up.signature (𝓡.run (𝓡.env bp_set_up-at.name)) (bp_set_up.spec 𝓛 𝓜.mem 𝓡.returns)
    bp_set_up_meets = bp_set_up-met.met 𝓤 𝓛 𝓜 𝓡

    pub bp_set_if_new_meets : Wired 𝓡.env bp_set_if_new-at.code → Meets 𝓛 bp_set_if_new.signature (𝓡.run (𝓡.env bp_set_if_new-at.name)) (bp_set_if_new.spec 𝓛 𝓜.mem 𝓡.returns)
    bp_set_if_new_meets = bp_set_if_new-met.met 𝓤 𝓛 𝓜 𝓡

    pub bp_set_meets : Wired 𝓡.env bp_set-at.code → Meets 𝓛 bp_set.signature (𝓡.run (𝓡.env bp_set-at.name)) (bp_set.spec 𝓛 𝓜.mem 𝓡.returns)
    bp_set_meets = bp_set-met.met 𝓤 𝓛 𝓜 𝓡

    pub bp_set_prepared_meets : Wired 𝓡.env bp_set_prepared-at.code → Meets 𝓛 bp_set_prepared.signature (𝓡.run (𝓡.env bp_set_prepared-at.name)) (bp_set_prepared.spec 𝓛 𝓜.mem 𝓡.returns)
    bp_set_prepared_meets = bp_set_prepared-met.met 𝓤 𝓛 𝓜 𝓡

    pub bp_pre_allocate_meets : Wired 𝓡.env bp_pre_allocate-at.code → Meets 𝓛 bp_pre_allocate.signature (𝓡.run (𝓡.env bp_pre_allocate-at.name)) (bp_pre_allocate.spec 𝓛 𝓜.mem 𝓡.returns)
    bp_pre_allocate_meets = bp_pre_allocate-met.met 𝓤 𝓛 𝓜 𝓡

    pub bp_merge_from_meets : Wired 𝓡.env bp_merge_from-at.code → Meets 𝓛 bp_merge_from.signature (𝓡.run (𝓡.env bp_merge_from-at.name)) (bp_merge_from.spec 𝓛 𝓜.mem 𝓡.returns)
    bp_merge_from_meets = bp_merge_from-met.met 𝓤 𝓛 𝓜 𝓡

    pub bp_merge_meets : Wired 𝓡.env bp_merge-at.code → Meets 𝓛 bp_merge.signature (𝓡.run (𝓡.env bp_merge-at.name)) (bp_merge.spec 𝓛 𝓜.mem 𝓡.returns)
    bp_merge_meets = bp_merge-met.met 𝓤 𝓛 𝓜 𝓡

    pub bp_into_ranked_meets : Wired 𝓡.env bp_into_ranked-at.code → Meets 𝓛 bp_into_ranked.signature (𝓡.run (𝓡.env bp_into_ranked-at.name)) (bp_into_ranked.spec 𝓛 𝓜.mem 𝓡.returns)
    bp_into_ranked_meets = bp_into_ranked-met.met 𝓤 𝓛 𝓜 𝓡

    pub bp_into_open_meets : Wired 𝓡.env bp_into_open-at.code → Meets 𝓛 bp_into_open.signature (𝓡.run (𝓡.env bp_into_open-at.name)) (bp_into_open.spec 𝓛 𝓜.mem 𝓡.returns)
    bp_into_open_meets = bp_into_open-met.met 𝓤 𝓛 𝓜 𝓡

    pub bp_get_meets : Wired 𝓡.env bp_get-at.code → Meets 𝓛 bp_get.signature (𝓡.run (𝓡.env bp_get-at.name)) (bp_get.spec 𝓛 𝓜.mem 𝓡.returns)
    bp_get_meets = bp_get-met.met 𝓤 𝓛 𝓜 𝓡

    pub bp_chunk_of_meets : Wired 𝓡.env bp_chunk_of-at.code → Meets 𝓛 bp_chunk_of.signature (𝓡.run (𝓡.env bp_chunk_of-at.name)) (bp_chunk_of.spec 𝓛 𝓜.mem 𝓡.returns)
    bp_chunk_of_meets = bp_chunk_of-met.met 𝓤 𝓛 𝓜 𝓡

    pub bp_any_in_range_meets : Wired 𝓡.env bp_any_in_range-at.code → Meets 𝓛 bp_any_in_range.signature (𝓡.run (𝓡.env bp_any_in_range-at.name)) (bp_any_in_range.spec 𝓛 𝓜.mem 𝓡.returns)
    bp_any_in_range_meets = bp_any_in_range-met.met 𝓤 𝓛 𝓜 𝓡

    pub bp_iter_from_meets : Wired 𝓡.env bp_iter_from-at.code → Meets 𝓛 bp_iter_from.signature (𝓡.run (𝓡.env bp_iter_from-at.name)) (bp_iter_from.spec 𝓛 𝓜.mem 𝓡.returns)
    bp_iter_from_meets = bp_iter_from-met.met 𝓤 𝓛 𝓜 𝓡

    pub bp_len_meets : Wired 𝓡.env bp_len-at.code → Meets 𝓛 bp_len.signature (𝓡.run (𝓡.env bp_len-at.name)) (bp_len.spec 𝓛 𝓜.mem 𝓡.returns)
    bp_len_meets = bp_len-met.met 𝓤 𝓛 𝓜 𝓡

    pub bp_is_empty_meets : Wired 𝓡.env bp_is_empty-at.code → Meets 𝓛 bp_is_empty.signature (𝓡.run (𝓡.env bp_is_empty-at.name)) (bp_is_empty.spec 𝓛 𝓜.mem 𝓡.returns)
    bp_is_empty_meets = bp_is_empty-met.met 𝓤 𝓛 𝓜 𝓡

    pub bp_has_any_meets : Wired 𝓡.env bp_has_any-at.code → Meets 𝓛 bp_has_any.signature (𝓡.run (𝓡.env bp_has_any-at.name)) (bp_has_any.spec 𝓛 𝓜.mem 𝓡.returns)
    bp_has_any_meets = bp_has_any-met.met 𝓤 𝓛 𝓜 𝓡

    pub bp_allocated_chunk_count_meets : Wired 𝓡.env bp_allocated_chunk_count-at.code → Meets 𝓛 bp_allocated_chunk_count.signature (𝓡.run (𝓡.env bp_allocated_chunk_count-at.name)) (bp_allocated_chunk_count.spec 𝓛 𝓜.mem 𝓡.returns)
    bp_allocated_chunk_count_meets = bp_allocated_chunk_count-met.met 𝓤 𝓛 𝓜 𝓡

    pub bp_rank_meets : Wired 𝓡.env bp_rank-at.code → Meets 𝓛 bp_rank.signature (𝓡.run (𝓡.env bp_rank-at.name)) (bp_rank.spec 𝓛 𝓜.mem 𝓡.returns)
    bp_rank_meets = bp_rank-met.met 𝓤 𝓛 𝓜 𝓡

    pub bp_rank_if_set_meets : Wired 𝓡.env bp_rank_if_set-at.code → Meets 𝓛 bp_rank_if_set.signature (𝓡.run (𝓡.env bp_rank_if_set-at.name)) (bp_rank_if_set.spec 𝓛 𝓜.mem 𝓡.returns)
    bp_rank_if_set_meets = bp_rank_if_set-met.met 𝓤 𝓛 𝓜 𝓡

    pub bp_total_count_meets : Wired 𝓡.env bp_total_count-at.code → Meets 𝓛 bp_total_count.signature (𝓡.run (𝓡.env bp_total_count-at.name)) (bp_total_count.spec 𝓛 𝓜.mem 𝓡.returns)
    bp_total_count_meets = bp_total_count-met.met 𝓤 𝓛 𝓜 𝓡

    pub bp_check_meets : Wired 𝓡.env bp_check-at.code → Meets 𝓛 bp_check.signature (𝓡.run (𝓡.env bp_check-at.name)) (bp_check.spec 𝓛 𝓜.mem 𝓡.returns)
    bp_check_meets = bp_check-met.met 𝓤 𝓛 𝓜 𝓡

    pub bp_plan_meets : Wired 𝓡.env bp_plan-at.code → Meets 𝓛 bp_plan.signature (𝓡.run (𝓡.env bp_plan-at.name)) (bp_plan.spec 𝓛 𝓜.mem 𝓡.returns)
    bp_plan_meets = bp_plan-met.met 𝓤 𝓛 𝓜 𝓡

    pub bp_ids_meets : Wired 𝓡.env bp_ids-at.code → Meets 𝓛 bp_ids.signature (𝓡.run (𝓡.env bp_ids-at.name)) (bp_ids.spec 𝓛 𝓜.mem 𝓡.returns)
    bp_ids_meets = bp_ids-met.met 𝓤 𝓛 𝓜 𝓡

    pub bp_ranks_meets : Wired 𝓡.env bp_ranks-at.code → Meets 𝓛 bp_ranks.signature (𝓡.run (𝓡.env bp_ranks-at.name)) (bp_ranks.spec 𝓛 𝓜.mem 𝓡.returns)
    bp_ranks_meets = bp_ranks-met.met 𝓤 𝓛 𝓜 𝓡

    pub bp_in_partition_meets : Wired 𝓡.env bp_in_partition-at.code → Meets 𝓛 bp_in_partition.signature (𝓡.run (𝓡.env bp_in_partition-at.name)) (bp_in_partition.spec 𝓛 𝓜.mem 𝓡.returns)
    bp_in_partition_meets = bp_in_partition-met.met 𝓤 𝓛 𝓜 𝓡

    pub bp_range_meets_meets : Wired 𝓡.env bp_range_meets-at.code → Meets 𝓛 bp_range_meets.signature (𝓡.run (𝓡.env bp_range_meets-at.name)) (bp_range_meets.spec 𝓛 𝓜.mem 𝓡.returns)
    bp_range_meets_meets = bp_range_meets-met.met 𝓤 𝓛 𝓜 𝓡

    pub bp_mark_ends_by_range_meets : Wired 𝓡.env bp_mark_ends_by_range-at.code → Meets 𝓛 bp_mark_ends_by_range.signature (𝓡.run (𝓡.env bp_mark_ends_by_range-at.name)) (bp_mark_ends_by_range.spec 𝓛 𝓜.mem 𝓡.returns)
    bp_mark_ends_by_range_meets = bp_mark_ends_by_range-met.met 𝓤 𝓛 𝓜 𝓡

    pub bp_mark_ends_by_partition_meets : Wired 𝓡.env bp_mark_ends_by_partition-at.code → Meets 𝓛 bp_mark_ends_by_partition.signature (𝓡.run (𝓡.env bp_mark_ends_by_partition-at.name)) (bp_mark_ends_by_partition.spec 𝓛 𝓜.mem 𝓡.returns)
    bp_mark_ends_by_partition_meets = bp_mark_ends_by_partition-met.met 𝓤 𝓛 𝓜 𝓡

    pub bp_get_all_meets : Wired 𝓡.env bp_get_all-at.code → Meets 𝓛 bp_get_all.signature (𝓡.run (𝓡.env bp_get_all-at.name)) (bp_get_all.spec 𝓛 𝓜.mem 𝓡.returns)
    bp_get_all_meets = bp_get_all-met.met 𝓤 𝓛 𝓜 𝓡

    pub bp_rank_all_meets : Wired 𝓡.env bp_rank_all-at.code → Meets 𝓛 bp_rank_all.signature (𝓡.run (𝓡.env bp_rank_all-at.name)) (bp_rank_all.spec 𝓛 𝓜.mem 𝓡.returns)
    bp_rank_all_meets = bp_rank_all-met.met 𝓤 𝓛 𝓜 𝓡

    pub bp_rank_if_set_all_meets : Wired 𝓡.env bp_rank_if_set_all-at.code → Meets 𝓛 bp_rank_if_set_all.signature (𝓡.run (𝓡.env bp_rank_if_set_all-at.name)) (bp_rank_if_set_all.spec 𝓛 𝓜.mem 𝓡.returns)
    bp_rank_if_set_all_meets = bp_rank_if_set_all-met.met 𝓤 𝓛 𝓜 𝓡

    pub bp_insert_all_meets : Wired 𝓡.env bp_insert_all-at.code → Meets 𝓛 bp_insert_all.signature (𝓡.run (𝓡.env bp_insert_all-at.name)) (bp_insert_all.spec 𝓛 𝓜.mem 𝓡.returns)
    bp_insert_all_meets = bp_insert_all-met.met 𝓤 𝓛 𝓜 𝓡

    pub bp_slots_for_budget_meets : Wired 𝓡.env bp_slots_for_budget-at.code → Meets 𝓛 bp_slots_for_budget.signature (𝓡.run (𝓡.env bp_slots_for_budget-at.name)) (bp_slots_for_budget.spec 𝓛 𝓜.mem 𝓡.returns)
    bp_slots_for_budget_meets = bp_slots_for_budget-met.met 𝓤 𝓛 𝓜 𝓡

    pub bp_file_bounded_max_id_meets : Wired 𝓡.env bp_file_bounded_max_id-at.code → Meets 𝓛 bp_file_bounded_max_id.signature (𝓡.run (𝓡.env bp_file_bounded_max_id-at.name)) (bp_file_bounded_max_id.spec 𝓛 𝓜.mem 𝓡.returns)
    bp_file_bounded_max_id_meets = bp_file_bounded_max_id-met.met 𝓤 𝓛 𝓜 𝓡

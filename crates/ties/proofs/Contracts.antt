-- The contract of every call, as its function was proved to meet it: it asks nothing of the caller, and it ensures the one predicate, whole. Assumes nothing.
use mathlib.Core.Path.{◌≡◌, refl}
use seplogic.Ra.Ura.{Ura}
use prog.Memory.{Memory}
use prog.Routine.{Routine}
use prog.Model.{Model}
use prog.Wired.{Wired}
use base.Logic.{SProp}
use types.Logic.{Logic}
use contract.Monad.{Fun}
use contract.Running.{Running}
use denote.Triple.Spec.{Meets}
use Rattle.document.specs.Calls as calls
use Rattle.document.specs.Calls.{whether, that, many, maybe, listed}
use Rattle.document.specs.Spans.{ids_answer, ranks_answer, in_partition, range_meets}
use Rattle.numbers.specs.Budget.{slots_for_budget, file_bounded_max_id}
use Rattle.layout.specs.SetUp.{sizes_of}
use Rattle.document.specs.Union as union
use Rattle.contracts.specs.Does.{Does, Answers, SetsUp, Joins}
use Rattle.cuts.specs.Promise.{Plans}
use Rattle.range_list.specs.Marks.{MarksByRange, MarksByPartition, EndsByRange, EndsByPartition}
use Rattle.lists.specs.Lists as listwise
use Rattle.lists.specs.Lists.{AnswersAll}
use Rattle.lists.specs.Inserts.{InsertsAll}
use Rattle.ties.proofs.Ensures.{four, lent, half, two, Ensures}
use Rattle.idset.specs.contracts.setup.set_up as set_up
use Rattle.inserts.specs.contracts.insert.set_if_new as set_if_new
use Rattle.inserts.specs.contracts.insert.set as set
use Rattle.inserts.specs.contracts.insert.set_prepared as set_prepared
use Rattle.prepare.specs.contracts.pre_allocate as pre_allocate
use Rattle.merging.specs.contracts.merge_from as merge_from
use Rattle.merging.specs.contracts.merge as merge
use Rattle.ranked.specs.contracts.form.into_ranked as into_ranked
use Rattle.ranked.specs.contracts.form.into_open as leaving
use Rattle.idset.specs.contracts.read.get as get
use Rattle.idset.specs.contracts.read.chunk_of as chunk_of
use Rattle.scan.specs.contracts.range.any_in_range as ranging
use Rattle.iteration.specs.contracts.listing.iter_from as iter_from
use Rattle.counts.specs.contracts.count.len as len
use Rattle.counts.specs.contracts.count.is_empty as is_empty
use Rattle.counts.specs.contracts.count.has_any as has_any
use Rattle.counts.specs.contracts.count.allocated_chunk_count as allocated_chunk_count
use Rattle.ranked.specs.contracts.rank.rank as rank
use Rattle.ranked.specs.contracts.rank.rank_if_set as rank_if_set
use Rattle.ranked.specs.contracts.rank.total_count as total_count
use Rattle.fullcheck.specs.contracts.check as check
use Rattle.cuts.specs.contracts.planning.plan as plan
use Rattle.intervals.specs.contracts.interval.partitions as partitions
use Rattle.intervals.specs.contracts.interval.ids as ids
use Rattle.intervals.specs.contracts.interval.ranks as ranks
use Rattle.intervals.specs.contracts.interval.in_partition as within
use Rattle.intervals.specs.contracts.interval.range_meets as meeting
use Rattle.range_list.specs.contracts.list.mark_by_range as mark_by_range
use Rattle.range_list.specs.contracts.list.mark_by_partition as mark_by_partition
use Rattle.range_list.specs.contracts.ends.mark_ends_by_range as mark_ends_by_range
use Rattle.range_list.specs.contracts.ends.mark_ends_by_partition as mark_ends_by_partition
use Rattle.lists.specs.contracts.read.get_all as get_all
use Rattle.lists.specs.contracts.read.rank_all as rank_all
use Rattle.lists.specs.contracts.read.rank_if_set_all as rank_if_set_all
use Rattle.lists.specs.contracts.insert.insert_all as insert_all
use Rattle.numbers.specs.contracts.budget.slots_for_budget as budgeting
use Rattle.numbers.specs.contracts.budget.file_bounded_max_id as bounding
use Rattle.idset.proofs.setup.set_up.Symbol as set_up-at
use Rattle.inserts.proofs.insert.set_if_new.Symbol as set_if_new-at
use Rattle.inserts.proofs.insert.set.Symbol as set_at
use Rattle.inserts.proofs.insert.set_prepared.Symbol as set_prepared-at
use Rattle.prepare.proofs.pre_allocate.Symbol as pre_allocate-at
use Rattle.merging.proofs.merge_from.Symbol as merge_from-at
use Rattle.merging.proofs.merge.Symbol as merge-at
use Rattle.ranked.proofs.form.into_ranked.Symbol as into_ranked-at
use Rattle.ranked.proofs.form.into_open.Symbol as leaving-at
use Rattle.idset.proofs.read.get.Symbol as get_at
use Rattle.idset.proofs.read.chunk_of.Symbol as chunk_of-at
use Rattle.scan.proofs.range.any_in_range.Symbol as ranging-at
use Rattle.iteration.proofs.listing.iter_from.Symbol as iter_from-at
use Rattle.counts.proofs.count.len.Symbol as len-at
use Rattle.counts.proofs.count.is_empty.Symbol as is_empty-at
use Rattle.counts.proofs.count.has_any.Symbol as has_any-at
use Rattle.counts.proofs.count.allocated_chunk_count.Symbol as allocated_chunk_count-at
use Rattle.ranked.proofs.rank.rank.Symbol as rank_at
use Rattle.ranked.proofs.rank.rank_if_set.Symbol as rank_if_set-at
use Rattle.ranked.proofs.rank.total_count.Symbol as total_count-at
use Rattle.fullcheck.proofs.check.Symbol as check-at
use Rattle.cuts.proofs.planning.plan.Symbol as plan_at
use Rattle.intervals.proofs.interval.partitions.Symbol as partitions-at
use Rattle.intervals.proofs.interval.ids.Symbol as ids_at
use Rattle.intervals.proofs.interval.ranks.Symbol as ranks_at
use Rattle.intervals.proofs.interval.in_partition.Symbol as within-at
use Rattle.intervals.proofs.interval.range_meets.Symbol as meeting-at
use Rattle.range_list.proofs.list.mark_by_range.Symbol as mark_by_range-at
use Rattle.range_list.proofs.list.mark_by_partition.Symbol as mark_by_partition-at
use Rattle.range_list.proofs.ends.mark_ends_by_range.Symbol as mark_ends_by_range-at
use Rattle.range_list.proofs.ends.mark_ends_by_partition.Symbol as mark_ends_by_partition-at
use Rattle.lists.proofs.read.get_all.Symbol as get_all-at
use Rattle.lists.proofs.read.rank_all.Symbol as rank_all-at
use Rattle.lists.proofs.read.rank_if_set_all.Symbol as rank_if_set_all-at
use Rattle.lists.proofs.insert.insert_all.Symbol as insert_all-at
use Rattle.numbers.proofs.budget.slots_for_budget.Symbol as budgeting-at
use Rattle.numbers.proofs.budget.file_bounded_max_id.Symbol as bounding-at
use Rattle.idset.proofs.setup.set_up.Met as set_up-met
use Rattle.inserts.proofs.insert.set_if_new.Met as set_if_new-met
use Rattle.inserts.proofs.insert.set.Met as set-met
use Rattle.inserts.proofs.insert.set_prepared.Met as set_prepared-met
use Rattle.prepare.proofs.pre_allocate.Met as pre_allocate-met
use Rattle.merging.proofs.merge_from.Met as merge_from-met
use Rattle.merging.proofs.merge.Met as merge-met
use Rattle.ranked.proofs.form.into_ranked.Met as into_ranked-met
use Rattle.ranked.proofs.form.into_open.Met as leaving-met
use Rattle.idset.proofs.read.get.Met as get-met
use Rattle.idset.proofs.read.chunk_of.Met as chunk_of-met
use Rattle.scan.proofs.range.any_in_range.Met as ranging-met
use Rattle.iteration.proofs.listing.iter_from.Met as iter_from-met
use Rattle.counts.proofs.count.len.Met as len-met
use Rattle.counts.proofs.count.is_empty.Met as is_empty-met
use Rattle.counts.proofs.count.has_any.Met as has_any-met
use Rattle.counts.proofs.count.allocated_chunk_count.Met as allocated_chunk_count-met
use Rattle.ranked.proofs.rank.rank.Met as rank-met
use Rattle.ranked.proofs.rank.rank_if_set.Met as rank_if_set-met
use Rattle.ranked.proofs.rank.total_count.Met as total_count-met
use Rattle.fullcheck.proofs.check.Met as check-met
use Rattle.cuts.proofs.planning.plan.Met as plan-met
use Rattle.intervals.proofs.interval.partitions.Met as partitions-met
use Rattle.intervals.proofs.interval.ids.Met as ids-met
use Rattle.intervals.proofs.interval.ranks.Met as ranks-met
use Rattle.intervals.proofs.interval.in_partition.Met as within-met
use Rattle.intervals.proofs.interval.range_meets.Met as meeting-met
use Rattle.range_list.proofs.list.mark_by_range.Met as mark_by_range-met
use Rattle.range_list.proofs.list.mark_by_partition.Met as mark_by_partition-met
use Rattle.range_list.proofs.ends.mark_ends_by_range.Met as mark_ends_by_range-met
use Rattle.range_list.proofs.ends.mark_ends_by_partition.Met as mark_ends_by_partition-met
use Rattle.lists.proofs.read.get_all.Met as get_all-met
use Rattle.lists.proofs.read.rank_all.Met as rank_all-met
use Rattle.lists.proofs.read.rank_if_set_all.Met as rank_if_set_all-met
use Rattle.lists.proofs.insert.insert_all.Met as insert_all-met
use Rattle.numbers.proofs.budget.slots_for_budget.Met as budgeting-met
use Rattle.numbers.proofs.budget.file_bounded_max_id.Met as bounding-met
use Rattle.std.specs.Prelude.{Ok}

module _ {M : Type 1} {𝓤 : Ura M} (𝓛 : Logic 𝓤) where
  open 𝓛 use {H}

  module _ (m : Memory → SProp 𝓤) (run : Routine → Fun 𝓤) where
    pub set_up_is : set_up.spec 𝓛 m run ≡ Ensures 𝓛 set_up.ended (λ κs a r e. SetsUp (sizes_of a.0 a.1.0 a.1.1.0 a.1.1.1.0 a.1.1.1.1.0 a.1.1.1.1.1.0) (lent a.1.1.1.1.1.1) r (lent e.1.1.1.1.1.1))
    set_up_is = refl

    pub set_if_new_is : set_if_new.spec 𝓛 m run ≡ Ensures 𝓛 set_if_new.ended (λ κs a r e. Does (lent a) (calls.insert a.1.1.1.1.0) (whether r) (lent e))
    set_if_new_is = refl

    pub set_is : set.spec 𝓛 m run ≡ Ensures 𝓛 set.ended (λ κs a r e. Does (lent a) (calls.put a.1.1.1.1.0) (that r) (lent e))
    set_is = refl

    pub set_prepared_is : set_prepared.spec 𝓛 m run ≡ Ensures 𝓛 set_prepared.ended (λ κs a r e. Does (lent a) (calls.prepared a.1.1.1.1.0) (whether r) (lent e))
    set_prepared_is = refl

    pub pre_allocate_is : pre_allocate.spec 𝓛 m run ≡ Ensures 𝓛 pre_allocate.ended (λ κs a r e. Does (lent a) (calls.prepare a.1.1.1.1.0) (that r) (lent e))
    pre_allocate_is = refl

    pub merge_from_is : merge_from.spec 𝓛 m run ≡ Ensures 𝓛 merge_from.ended (λ κs a r e. Joins (lent a) (four a.1.1.1.1) union.merge_from r (lent e) (four a.1.1.1.1))
    merge_from_is = refl

    pub merge_is : merge.spec 𝓛 m run ≡ Ensures 𝓛 merge.ended (λ κs a r e. Joins (lent a) (lent a.1.1.1.1) union.merge r (lent e) (lent e.1.1.1.1))
    merge_is = refl

    pub into_ranked_is : into_ranked.spec 𝓛 m run ≡ Ensures 𝓛 into_ranked.ended (λ κs a r e. Does (half a) calls.rank_up (that r) (two a e))
    into_ranked_is = refl

    pub into_open_is : leaving.spec 𝓛 m run ≡ Ensures 𝓛 leaving.ended (λ κs a r e. Does (half a) calls.leave (that r) (two a e))
    into_open_is = refl

    pub get_is : get.spec 𝓛 m run ≡ Ensures 𝓛 get.ended (λ κs a r e. Answers (four a) (calls.get a.1.1.1.1.0) (whether r))
    get_is = refl

    pub chunk_of_is : chunk_of.spec 𝓛 m run ≡ Ensures 𝓛 chunk_of.ended (λ κs a r e. Answers (four a) (calls.chunk_id a.1.1.1.1.0) (maybe r))
    chunk_of_is = refl

    pub any_in_range_is : ranging.spec 𝓛 m run ≡ Ensures 𝓛 ranging.ended (λ κs a r e. Answers (four a) (calls.range_test a.1.1.1.1.0 a.1.1.1.1.1.0) (whether r))
    any_in_range_is = refl

    pub iter_from_is : iter_from.spec 𝓛 m run ≡ Ensures 𝓛 iter_from.ended (λ κs a r e. Answers (four a) (calls.iterate a.1.1.1.1.0) (listed r))
    iter_from_is = refl

    pub len_is : len.spec 𝓛 m run ≡ Ensures 𝓛 len.ended (λ κs a r e. Answers (four a) calls.len (many r))
    len_is = refl

    pub is_empty_is : is_empty.spec 𝓛 m run ≡ Ensures 𝓛 is_empty.ended (λ κs a r e. Answers (four a) calls.is_empty (whether r))
    is_empty_is = refl

    pub has_any_is : has_any.spec 𝓛 m run ≡ Ensures 𝓛 has_any.ended (λ κs a r e. Answers (four a) calls.has_any (whether r))
    has_any_is = refl

    pub allocated_chunk_count_is : allocated_chunk_count.spec 𝓛 m run ≡ Ensures 𝓛 allocated_chunk_count.ended (λ κs a r e. Answers (four a) calls.chunk_count (many r))
    allocated_chunk_count_is = refl

    pub rank_is : rank.spec 𝓛 m run ≡ Ensures 𝓛 rank.ended (λ κs a r e. Answers (four a) (calls.rank_of a.1.1.1.1.0) (many r))
    rank_is = refl

    pub rank_if_set_is : rank_if_set.spec 𝓛 m run ≡ Ensures 𝓛 rank_if_set.ended (λ κs a r e. Answers (four a) (calls.rank_if_set a.1.1.1.1.0) (maybe r))
    rank_if_set_is = refl

    pub total_count_is : total_count.spec 𝓛 m run ≡ Ensures 𝓛 total_count.ended (λ κs a r e. Answers (four a) calls.total_count (many r))
    total_count_is = refl

    pub check_is : check.spec 𝓛 m run ≡ Ensures 𝓛 check.ended (λ κs a r e. Answers (four a) calls.check (whether (Ok r)))
    check_is = refl

    pub plan_is : plan.spec 𝓛 m run ≡ Ensures 𝓛 plan.ended (λ κs a r e. Plans (four a) a.1.1.1.1.0 a.1.1.1.1.1.0.now r e.1.1.1.1.1.0.now)
    plan_is = refl

    pub partitions_is : partitions.spec 𝓛 m run ≡ Ensures 𝓛 partitions.ended (λ κs a r e. r ≡ a.0.partitions)
    partitions_is = refl

    pub ids_is : ids.spec 𝓛 m run ≡ Ensures 𝓛 ids.ended (λ κs a r e. r ≡ ids_answer a.0 a.1.0.now a.1.1.0)
    ids_is = refl

    pub ranks_is : ranks.spec 𝓛 m run ≡ Ensures 𝓛 ranks.ended (λ κs a r e. r ≡ ranks_answer a.0 a.1.0)
    ranks_is = refl

    pub in_partition_is : within.spec 𝓛 m run ≡ Ensures 𝓛 within.ended (λ κs a r e. r ≡ in_partition a.0 a.1.0)
    in_partition_is = refl

    pub range_meets_is : meeting.spec 𝓛 m run ≡ Ensures 𝓛 meeting.ended (λ κs a r e. r ≡ range_meets a.0 a.1.0 a.1.1.0)
    range_meets_is = refl

    pub mark_by_range_is : mark_by_range.spec 𝓛 m run ≡ Ensures 𝓛 mark_by_range.ended (λ κs a r e. MarksByRange (four a.1) a.0.now r e.0.now)
    mark_by_range_is = refl

    pub mark_by_partition_is : mark_by_partition.spec 𝓛 m run ≡ Ensures 𝓛 mark_by_partition.ended (λ κs a r e. MarksByPartition (ids_answer a.1.0 a.1.1.0.now a.1.1.1.0) a.0.now r e.0.now)
    mark_by_partition_is = refl

    pub mark_ends_by_range_is : mark_ends_by_range.spec 𝓛 m run ≡ Ensures 𝓛 mark_ends_by_range.ended (λ κs a r e. EndsByRange (four a.1.1.1) a.0.now a.1.0.now a.1.1.0.now r e.1.1.0.now)
    mark_ends_by_range_is = refl

    pub mark_ends_by_partition_is : mark_ends_by_partition.spec 𝓛 m run ≡ Ensures 𝓛 mark_ends_by_partition.ended (λ κs a r e. EndsByPartition (ids_answer a.1.1.1.0 a.1.1.1.1.0.now a.1.1.1.1.1.0) a.0.now a.1.0.now a.1.1.0.now r e.1.1.0.now)
    mark_ends_by_partition_is = refl

    pub get_all_is : get_all.spec 𝓛 m run ≡ Ensures 𝓛 get_all.ended (λ κs a r e. AnswersAll (four a.1.1) listwise.get_all a.0.now a.1.0.now r e.1.0.now)
    get_all_is = refl

    pub rank_all_is : rank_all.spec 𝓛 m run ≡ Ensures 𝓛 rank_all.ended (λ κs a r e. AnswersAll (four a.1.1) listwise.rank_all a.0.now a.1.0.now r e.1.0.now)
    rank_all_is = refl

    pub rank_if_set_all_is : rank_if_set_all.spec 𝓛 m run ≡ Ensures 𝓛 rank_if_set_all.ended (λ κs a r e. AnswersAll (four a.1.1) listwise.rank_if_all a.0.now a.1.0.now r e.1.0.now)
    rank_if_set_all_is = refl

    pub insert_all_is : insert_all.spec 𝓛 m run ≡ Ensures 𝓛 insert_all.ended (λ κs a r e. InsertsAll (lent a.1) a.0.now r (lent e.1))
    insert_all_is = refl

    pub slots_for_budget_is : budgeting.spec 𝓛 m run ≡ Ensures 𝓛 budgeting.ended (λ κs a r e. r ≡ slots_for_budget a.0)
    slots_for_budget_is = refl

    pub file_bounded_max_id_is : bounding.spec 𝓛 m run ≡ Ensures 𝓛 bounding.ended (λ κs a r e. r ≡ file_bounded_max_id a.0 a.1.0 a.1.1.0)
    file_bounded_max_id_is = refl

  module _ (𝓜 : Model 𝓤 H) (𝓡 : Running 𝓤 H 𝓜) where
    pub set_up_meets : Wired 𝓡.env set_up-at.code → Meets 𝓛 set_up.signature (𝓡.run (𝓡.env set_up-at.name))
        (Ensures 𝓛 set_up.ended (λ κs a r e. SetsUp (sizes_of a.0 a.1.0 a.1.1.0 a.1.1.1.0 a.1.1.1.1.0 a.1.1.1.1.1.0) (lent a.1.1.1.1.1.1) r (lent e.1.1.1.1.1.1)))
    set_up_meets = set_up-met.met 𝓤 𝓛 𝓜 𝓡

    pub set_if_new_meets : Wired 𝓡.env set_if_new-at.code → Meets 𝓛 set_if_new.signature (𝓡.run (𝓡.env set_if_new-at.name))
        (Ensures 𝓛 set_if_new.ended (λ κs a r e. Does (lent a) (calls.insert a.1.1.1.1.0) (whether r) (lent e)))
    set_if_new_meets = set_if_new-met.met 𝓤 𝓛 𝓜 𝓡

    pub set_meets : Wired 𝓡.env set_at.code → Meets 𝓛 set.signature (𝓡.run (𝓡.env set_at.name))
        (Ensures 𝓛 set.ended (λ κs a r e. Does (lent a) (calls.put a.1.1.1.1.0) (that r) (lent e)))
    set_meets = set-met.met 𝓤 𝓛 𝓜 𝓡

    pub set_prepared_meets : Wired 𝓡.env set_prepared-at.code → Meets 𝓛 set_prepared.signature (𝓡.run (𝓡.env set_prepared-at.name))
        (Ensures 𝓛 set_prepared.ended (λ κs a r e. Does (lent a) (calls.prepared a.1.1.1.1.0) (whether r) (lent e)))
    set_prepared_meets = set_prepared-met.met 𝓤 𝓛 𝓜 𝓡

    pub pre_allocate_meets : Wired 𝓡.env pre_allocate-at.code → Meets 𝓛 pre_allocate.signature (𝓡.run (𝓡.env pre_allocate-at.name))
        (Ensures 𝓛 pre_allocate.ended (λ κs a r e. Does (lent a) (calls.prepare a.1.1.1.1.0) (that r) (lent e)))
    pre_allocate_meets = pre_allocate-met.met 𝓤 𝓛 𝓜 𝓡

    pub merge_from_meets : Wired 𝓡.env merge_from-at.code → Meets 𝓛 merge_from.signature (𝓡.run (𝓡.env merge_from-at.name))
        (Ensures 𝓛 merge_from.ended (λ κs a r e. Joins (lent a) (four a.1.1.1.1) union.merge_from r (lent e) (four a.1.1.1.1)))
    merge_from_meets = merge_from-met.met 𝓤 𝓛 𝓜 𝓡

    pub merge_meets : Wired 𝓡.env merge-at.code → Meets 𝓛 merge.signature (𝓡.run (𝓡.env merge-at.name))
        (Ensures 𝓛 merge.ended (λ κs a r e. Joins (lent a) (lent a.1.1.1.1) union.merge r (lent e) (lent e.1.1.1.1)))
    merge_meets = merge-met.met 𝓤 𝓛 𝓜 𝓡

    pub into_ranked_meets : Wired 𝓡.env into_ranked-at.code → Meets 𝓛 into_ranked.signature (𝓡.run (𝓡.env into_ranked-at.name))
        (Ensures 𝓛 into_ranked.ended (λ κs a r e. Does (half a) calls.rank_up (that r) (two a e)))
    into_ranked_meets = into_ranked-met.met 𝓤 𝓛 𝓜 𝓡

    pub into_open_meets : Wired 𝓡.env leaving-at.code → Meets 𝓛 leaving.signature (𝓡.run (𝓡.env leaving-at.name))
        (Ensures 𝓛 leaving.ended (λ κs a r e. Does (half a) calls.leave (that r) (two a e)))
    into_open_meets = leaving-met.met 𝓤 𝓛 𝓜 𝓡

    pub get_meets : Wired 𝓡.env get_at.code → Meets 𝓛 get.signature (𝓡.run (𝓡.env get_at.name))
        (Ensures 𝓛 get.ended (λ κs a r e. Answers (four a) (calls.get a.1.1.1.1.0) (whether r)))
    get_meets = get-met.met 𝓤 𝓛 𝓜 𝓡

    pub chunk_of_meets : Wired 𝓡.env chunk_of-at.code → Meets 𝓛 chunk_of.signature (𝓡.run (𝓡.env chunk_of-at.name))
        (Ensures 𝓛 chunk_of.ended (λ κs a r e. Answers (four a) (calls.chunk_id a.1.1.1.1.0) (maybe r)))
    chunk_of_meets = chunk_of-met.met 𝓤 𝓛 𝓜 𝓡

    pub any_in_range_meets : Wired 𝓡.env ranging-at.code → Meets 𝓛 ranging.signature (𝓡.run (𝓡.env ranging-at.name))
        (Ensures 𝓛 ranging.ended (λ κs a r e. Answers (four a) (calls.range_test a.1.1.1.1.0 a.1.1.1.1.1.0) (whether r)))
    any_in_range_meets = ranging-met.met 𝓤 𝓛 𝓜 𝓡

    pub iter_from_meets : Wired 𝓡.env iter_from-at.code → Meets 𝓛 iter_from.signature (𝓡.run (𝓡.env iter_from-at.name))
        (Ensures 𝓛 iter_from.ended (λ κs a r e. Answers (four a) (calls.iterate a.1.1.1.1.0) (listed r)))
    iter_from_meets = iter_from-met.met 𝓤 𝓛 𝓜 𝓡

    pub len_meets : Wired 𝓡.env len-at.code → Meets 𝓛 len.signature (𝓡.run (𝓡.env len-at.name))
        (Ensures 𝓛 len.ended (λ κs a r e. Answers (four a) calls.len (many r)))
    len_meets = len-met.met 𝓤 𝓛 𝓜 𝓡

    pub is_empty_meets : Wired 𝓡.env is_empty-at.code → Meets 𝓛 is_empty.signature (𝓡.run (𝓡.env is_empty-at.name))
        (Ensures 𝓛 is_empty.ended (λ κs a r e. Answers (four a) calls.is_empty (whether r)))
    is_empty_meets = is_empty-met.met 𝓤 𝓛 𝓜 𝓡

    pub has_any_meets : Wired 𝓡.env has_any-at.code → Meets 𝓛 has_any.signature (𝓡.run (𝓡.env has_any-at.name))
        (Ensures 𝓛 has_any.ended (λ κs a r e. Answers (four a) calls.has_any (whether r)))
    has_any_meets = has_any-met.met 𝓤 𝓛 𝓜 𝓡

    pub allocated_chunk_count_meets : Wired 𝓡.env allocated_chunk_count-at.code → Meets 𝓛 allocated_chunk_count.signature (𝓡.run (𝓡.env allocated_chunk_count-at.name))
        (Ensures 𝓛 allocated_chunk_count.ended (λ κs a r e. Answers (four a) calls.chunk_count (many r)))
    allocated_chunk_count_meets = allocated_chunk_count-met.met 𝓤 𝓛 𝓜 𝓡

    pub rank_meets : Wired 𝓡.env rank_at.code → Meets 𝓛 rank.signature (𝓡.run (𝓡.env rank_at.name))
        (Ensures 𝓛 rank.ended (λ κs a r e. Answers (four a) (calls.rank_of a.1.1.1.1.0) (many r)))
    rank_meets = rank-met.met 𝓤 𝓛 𝓜 𝓡

    pub rank_if_set_meets : Wired 𝓡.env rank_if_set-at.code → Meets 𝓛 rank_if_set.signature (𝓡.run (𝓡.env rank_if_set-at.name))
        (Ensures 𝓛 rank_if_set.ended (λ κs a r e. Answers (four a) (calls.rank_if_set a.1.1.1.1.0) (maybe r)))
    rank_if_set_meets = rank_if_set-met.met 𝓤 𝓛 𝓜 𝓡

    pub total_count_meets : Wired 𝓡.env total_count-at.code → Meets 𝓛 total_count.signature (𝓡.run (𝓡.env total_count-at.name))
        (Ensures 𝓛 total_count.ended (λ κs a r e. Answers (four a) calls.total_count (many r)))
    total_count_meets = total_count-met.met 𝓤 𝓛 𝓜 𝓡

    pub check_meets : Wired 𝓡.env check-at.code → Meets 𝓛 check.signature (𝓡.run (𝓡.env check-at.name))
        (Ensures 𝓛 check.ended (λ κs a r e. Answers (four a) calls.check (whether (Ok r))))
    check_meets = check-met.met 𝓤 𝓛 𝓜 𝓡

    pub plan_meets : Wired 𝓡.env plan_at.code → Meets 𝓛 plan.signature (𝓡.run (𝓡.env plan_at.name))
        (Ensures 𝓛 plan.ended (λ κs a r e. Plans (four a) a.1.1.1.1.0 a.1.1.1.1.1.0.now r e.1.1.1.1.1.0.now))
    plan_meets = plan-met.met 𝓤 𝓛 𝓜 𝓡

    pub partitions_meets : Wired 𝓡.env partitions-at.code → Meets 𝓛 partitions.signature (𝓡.run (𝓡.env partitions-at.name))
        (Ensures 𝓛 partitions.ended (λ κs a r e. r ≡ a.0.partitions))
    partitions_meets = partitions-met.met 𝓤 𝓛 𝓜 𝓡

    pub ids_meets : Wired 𝓡.env ids_at.code → Meets 𝓛 ids.signature (𝓡.run (𝓡.env ids_at.name))
        (Ensures 𝓛 ids.ended (λ κs a r e. r ≡ ids_answer a.0 a.1.0.now a.1.1.0))
    ids_meets = ids-met.met 𝓤 𝓛 𝓜 𝓡

    pub ranks_meets : Wired 𝓡.env ranks_at.code → Meets 𝓛 ranks.signature (𝓡.run (𝓡.env ranks_at.name))
        (Ensures 𝓛 ranks.ended (λ κs a r e. r ≡ ranks_answer a.0 a.1.0))
    ranks_meets = ranks-met.met 𝓤 𝓛 𝓜 𝓡

    pub in_partition_meets : Wired 𝓡.env within-at.code → Meets 𝓛 within.signature (𝓡.run (𝓡.env within-at.name))
        (Ensures 𝓛 within.ended (λ κs a r e. r ≡ in_partition a.0 a.1.0))
    in_partition_meets = within-met.met 𝓤 𝓛 𝓜 𝓡

    pub range_meets_meets : Wired 𝓡.env meeting-at.code → Meets 𝓛 meeting.signature (𝓡.run (𝓡.env meeting-at.name))
        (Ensures 𝓛 meeting.ended (λ κs a r e. r ≡ range_meets a.0 a.1.0 a.1.1.0))
    range_meets_meets = meeting-met.met 𝓤 𝓛 𝓜 𝓡

    pub mark_by_range_meets : Wired 𝓡.env mark_by_range-at.code → Meets 𝓛 mark_by_range.signature (𝓡.run (𝓡.env mark_by_range-at.name))
        (Ensures 𝓛 mark_by_range.ended (λ κs a r e. MarksByRange (four a.1) a.0.now r e.0.now))
    mark_by_range_meets = mark_by_range-met.met 𝓤 𝓛 𝓜 𝓡

    pub mark_by_partition_meets : Wired 𝓡.env mark_by_partition-at.code → Meets 𝓛 mark_by_partition.signature (𝓡.run (𝓡.env mark_by_partition-at.name))
        (Ensures 𝓛 mark_by_partition.ended (λ κs a r e. MarksByPartition (ids_answer a.1.0 a.1.1.0.now a.1.1.1.0) a.0.now r e.0.now))
    mark_by_partition_meets = mark_by_partition-met.met 𝓤 𝓛 𝓜 𝓡

    pub mark_ends_by_range_meets : Wired 𝓡.env mark_ends_by_range-at.code → Meets 𝓛 mark_ends_by_range.signature (𝓡.run (𝓡.env mark_ends_by_range-at.name))
        (Ensures 𝓛 mark_ends_by_range.ended (λ κs a r e. EndsByRange (four a.1.1.1) a.0.now a.1.0.now a.1.1.0.now r e.1.1.0.now))
    mark_ends_by_range_meets = mark_ends_by_range-met.met 𝓤 𝓛 𝓜 𝓡

    pub mark_ends_by_partition_meets : Wired 𝓡.env mark_ends_by_partition-at.code → Meets 𝓛 mark_ends_by_partition.signature (𝓡.run (𝓡.env mark_ends_by_partition-at.name))
        (Ensures 𝓛 mark_ends_by_partition.ended (λ κs a r e. EndsByPartition (ids_answer a.1.1.1.0 a.1.1.1.1.0.now a.1.1.1.1.1.0) a.0.now a.1.0.now a.1.1.0.now r e.1.1.0.now))
    mark_ends_by_partition_meets = mark_ends_by_partition-met.met 𝓤 𝓛 𝓜 𝓡

    pub get_all_meets : Wired 𝓡.env get_all-at.code → Meets 𝓛 get_all.signature (𝓡.run (𝓡.env get_all-at.name))
        (Ensures 𝓛 get_all.ended (λ κs a r e. AnswersAll (four a.1.1) listwise.get_all a.0.now a.1.0.now r e.1.0.now))
    get_all_meets = get_all-met.met 𝓤 𝓛 𝓜 𝓡

    pub rank_all_meets : Wired 𝓡.env rank_all-at.code → Meets 𝓛 rank_all.signature (𝓡.run (𝓡.env rank_all-at.name))
        (Ensures 𝓛 rank_all.ended (λ κs a r e. AnswersAll (four a.1.1) listwise.rank_all a.0.now a.1.0.now r e.1.0.now))
    rank_all_meets = rank_all-met.met 𝓤 𝓛 𝓜 𝓡

    pub rank_if_set_all_meets : Wired 𝓡.env rank_if_set_all-at.code → Meets 𝓛 rank_if_set_all.signature (𝓡.run (𝓡.env rank_if_set_all-at.name))
        (Ensures 𝓛 rank_if_set_all.ended (λ κs a r e. AnswersAll (four a.1.1) listwise.rank_if_all a.0.now a.1.0.now r e.1.0.now))
    rank_if_set_all_meets = rank_if_set_all-met.met 𝓤 𝓛 𝓜 𝓡

    pub insert_all_meets : Wired 𝓡.env insert_all-at.code → Meets 𝓛 insert_all.signature (𝓡.run (𝓡.env insert_all-at.name))
        (Ensures 𝓛 insert_all.ended (λ κs a r e. InsertsAll (lent a.1) a.0.now r (lent e.1)))
    insert_all_meets = insert_all-met.met 𝓤 𝓛 𝓜 𝓡

    pub slots_for_budget_meets : Wired 𝓡.env budgeting-at.code → Meets 𝓛 budgeting.signature (𝓡.run (𝓡.env budgeting-at.name))
        (Ensures 𝓛 budgeting.ended (λ κs a r e. r ≡ slots_for_budget a.0))
    slots_for_budget_meets = budgeting-met.met 𝓤 𝓛 𝓜 𝓡

    pub file_bounded_max_id_meets : Wired 𝓡.env bounding-at.code → Meets 𝓛 bounding.signature (𝓡.run (𝓡.env bounding-at.name))
        (Ensures 𝓛 bounding.ended (λ κs a r e. r ≡ file_bounded_max_id a.0 a.1.0 a.1.1.0))
    file_bounded_max_id_meets = bounding-met.met 𝓤 𝓛 𝓜 𝓡

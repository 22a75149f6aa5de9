-- Every refusal has a number of document 01's table: so 0 is free to say that there is none. Assumes nothing.
use mathlib.Core.Path.{sym, subst}
use mathlib.Core.Bool.{Bool, true, false, cond}
use mathlib.Core.List.{List}
use Prim.Native.Nat.{ℕ, ◌-◌, ◌^◌, ◌≤◌}
use native.Mathlib.Omega.{arith}
use lib.IntN.{ℤ, pos, suc_ℤ}
use lib.Dec.{ltb}
use Rattle.document.specs.Refusals.{Numbered, number, not_laid_out}
use Rattle.document.specs.declared.refusal.Refusal.{Refusal}
use Rattle.document.specs.declared.refusal.Refusal.TheVariants.{OutsideSizes, TooShort, NotLaidOut, IsRanked, IsOpen, OverflowFull, RowsFull, PagesFull, NotPrepared, SizesDiffer, NoRoom, NoPartition}
use Rattle.document.specs.Calls.{Call, insert, put, prepared, prepare, rank_up, leave, Said, whether, that, many, maybe, listed}
use Rattle.document.specs.Calls.{Ask, get, range_test, chunk_id, len, is_empty, has_any, chunk_count, iterate, rank_of, rank_if_set, total_count, check}
use Rattle.document.specs.Insert.{done}
use Rattle.document.specs.Iteration.{refused_listing}
use Rattle.document.specs.Union.{Join}
use Rattle.document.specs.Spans.{ids_answer, ranks_answer}
use Rattle.document.specs.declared.sizes.Sizes.{Sizes}
use Rattle.document.specs.declared.answer.Listing.{Listing}
use Rattle.document.specs.declared.plan.Plan as made
use Rattle.layout.specs.Mem.{Mem}
use Rattle.calls.specs.Reading.{get_by, chunk_of_by}
use Rattle.calls.specs.Counts.{entries_ok, len_by, is_empty_by, has_any_by, chunks_by}
use Rattle.calls.specs.Range.{any_by}
use Rattle.calls.specs.Iteration.{Filled, to, bad, fill_from, last_id, ended, ended_by, record_by, from_zero, iter_by}
use Rattle.calls.specs.Insert.{insert_by, prepared_by}
use Rattle.calls.specs.Prepare.{prepare_by}
use Rattle.ranks.specs.Rank.{rank_by, rank_if_by, total_by}
use Rattle.ranks.specs.Form.{rank_up_by, open_by}
use Rattle.contracts.specs.Runs.{Ran, ran_by}
use Rattle.contracts.specs.Does.{Does, Answers, SetsUp, Joins}
use Rattle.cuts.specs.Promise.{Plans}
use Rattle.range_list.specs.Marks.{EndsByRange, EndsByPartition}
use Rattle.lists.specs.Lists.{ListAsk, AnswersAll}
use Rattle.codes.specs.Codes.{OutcomeNumbered, TruthNumbered, AmountNumbered, PerhapsNumbered, PlanningNumbered, SpannedNumbered, RanksNumbered}
use Rattle.document.specs.Results.{Amount, Outcome, Perhaps, Planning, Ranked, Spanned, Truth}
use Rattle.std.specs.Prelude.{Err, None, Ok, Some, ℕ}

-- ---- every refusal

number_fine : (n : Refusal) → Numbered (number n)
number_fine OutsideSizes = (omega arith, omega arith)
number_fine TooShort = (omega arith, omega arith)
number_fine NotLaidOut = (omega arith, omega arith)
number_fine IsRanked = (omega arith, omega arith)
number_fine IsOpen = (omega arith, omega arith)
number_fine OverflowFull = (omega arith, omega arith)
number_fine RowsFull = (omega arith, omega arith)
number_fine PagesFull = (omega arith, omega arith)
number_fine NotPrepared = (omega arith, omega arith)
number_fine SizesDiffer = (omega arith, omega arith)
number_fine NoRoom = (omega arith, omega arith)
number_fine NoPartition = (omega arith, omega arith)

outcome_fine : (a : Outcome) → OutcomeNumbered a
outcome_fine (Ok tt) = tt
outcome_fine (Err n) = number_fine n

truth_fine : (a : Truth) → TruthNumbered a
truth_fine (Ok b) = tt
truth_fine (Err n) = number_fine n

amount_fine : (a : Amount) → AmountNumbered a
amount_fine (Ok n) = tt
amount_fine (Err n) = number_fine n

perhaps_fine : (a : Perhaps) → PerhapsNumbered a
perhaps_fine (Ok (Some n)) = tt
perhaps_fine (Ok None) = tt
perhaps_fine (Err n) = number_fine n

planning_fine : (a : Planning) → PlanningNumbered a
planning_fine (Ok p) = tt
planning_fine (Err n) = number_fine n

spanned_fine : (a : Spanned) → SpannedNumbered a
spanned_fine (Ok i) = tt
spanned_fine (Err n) = number_fine n

ranks_fine : (a : Ranked) → RanksNumbered a
ranks_fine (Ok k) = tt
ranks_fine (Err n) = number_fine n

-- ---- what contracts allow

-- both ways of a test
either : {A : Type 0} (P : A → Type 0) (b : Bool) (x y : A) → P x → P y → P (cond b x y)
either P true x y h k = h
either P false x y h k = k

-- a record of iteration has a field for its refusal, which is 0 where there is none
abbrev ListedFine : Listing → Type 0
ListedFine r = r.refusal ≤ 12

ended_fine : (ids : List ℤ) (k : ℕ) (start : ℤ) (a : Truth) → ListedFine (ended_by ids k start a)
ended_fine ids k start (Ok true) = omega arith
ended_fine ids k start (Ok false) = omega arith
ended_fine ids k start (Err n) = (number_fine n).1

record_fine : (x : Mem) (start : ℤ) (f : Filled) → ListedFine (record_by x start f)
record_fine x start (to ids k) =
    let past = any_by x (suc_ℤ (last_id ids)) (pos (2 ^ 63 - 1)) in
    either ListedFine (ltb k 64) (ended ids k start) (ended_by ids k start past) (omega arith) (ended_fine ids k start past)
record_fine x start bad = omega arith

iterate_fine : (x : Mem) (start : ℤ) → ListedFine (iter_by x start)
unfolding iter_by
iterate_fine x start =
    let found = fill_from x (from_zero start) in
    either ListedFine (entries_ok x.table) (record_by x start found) (refused_listing (number not_laid_out)) (record_fine x start found) (omega arith)

-- a refusal that is said has a number of the table
abbrev pub SaidNumbered : Said → Type 0
SaidNumbered (whether a) = TruthNumbered a
SaidNumbered (that a) = OutcomeNumbered a
SaidNumbered (many a) = AmountNumbered a
SaidNumbered (maybe a) = PerhapsNumbered a
SaidNumbered (listed r) = r.refusal ≤ 12

ran_fine : (x : Mem) (c : Call) → SaidNumbered (ran_by x c).answer
ran_fine x (insert z) = truth_fine (insert_by x z).answer
ran_fine x (put z) = outcome_fine (done (insert_by x z).answer)
ran_fine x (prepared z) = truth_fine (prepared_by x z).answer
ran_fine x (prepare z) = outcome_fine (prepare_by x z).answer
ran_fine x rank_up = outcome_fine (rank_up_by x).answer
ran_fine x leave = outcome_fine (open_by x).answer

pub numbered : (x : Mem) (c : Call) (a : Said) (y : Mem) → Does x c a y → SaidNumbered a
numbered x c a y d = subst (λ (r : Ran). SaidNumbered r.answer) (sym d.by) (ran_fine x c)

pub numbered_reading : (x : Mem) (k : Ask) (a : Said) → Answers x k a → SaidNumbered a
numbered_reading x (get z) a d = subst SaidNumbered (sym d.by) (truth_fine (get_by x z))
numbered_reading x (range_test lo hi) a d = subst SaidNumbered (sym d.by) (truth_fine (any_by x lo hi))
numbered_reading x (chunk_id z) a d = subst SaidNumbered (sym d.by) (perhaps_fine (chunk_of_by x z))
numbered_reading x len a d = subst SaidNumbered (sym d.by) (amount_fine (len_by x))
numbered_reading x is_empty a d = subst SaidNumbered (sym d.by) (truth_fine (is_empty_by x))
numbered_reading x has_any a d = subst SaidNumbered (sym d.by) (truth_fine (has_any_by x))
numbered_reading x chunk_count a d = subst SaidNumbered (sym d.by) (amount_fine (chunks_by x))
numbered_reading x (iterate z) a d = subst SaidNumbered (sym d.by) (iterate_fine x z)
numbered_reading x (rank_of z) a d = subst SaidNumbered (sym d.by) (amount_fine (rank_by x z))
numbered_reading x (rank_if_set z) a d = subst SaidNumbered (sym d.by) (perhaps_fine (rank_if_by x z))
numbered_reading x total_count a d = subst SaidNumbered (sym d.by) (amount_fine (total_by x))
numbered_reading x check a d = subst SaidNumbered (sym d.by.said) tt

pub numbered_set_up : (h : Sizes) (x : Mem) (a : Outcome) (y : Mem) → SetsUp h x a y → OutcomeNumbered a
numbered_set_up h x a y d = outcome_fine a

pub numbered_union : (x y : Mem) (j : Join) (a : Outcome) (x' y' : Mem) → Joins x y j a x' y' → OutcomeNumbered a
numbered_union x y j a x' y' d = outcome_fine a

pub numbered_plan : (x : Mem) (slots : ℕ) (bs : List ℤ) (a : Planning) (cs : List ℤ) → Plans x slots bs a cs → PlanningNumbered a
numbered_plan x slots bs a cs d = planning_fine a

pub numbered_ids : (p : made.Plan) (bs : List ℤ) (k : ℕ) → SpannedNumbered (ids_answer p bs k)
numbered_ids p bs k = spanned_fine (ids_answer p bs k)

pub numbered_ranks : (p : made.Plan) (k : ℕ) → RanksNumbered (ranks_answer p k)
numbered_ranks p k = ranks_fine (ranks_answer p k)

pub numbered_by_range : (x : Mem) (los his : List ℤ) (ms : List ℕ) (a : Outcome) (ms' : List ℕ) → EndsByRange x los his ms a ms' → OutcomeNumbered a
numbered_by_range x los his ms a ms' d = outcome_fine a

pub numbered_by_partition : (p : made.Plan) (bs : List ℤ) (k : ℕ) (los his : List ℤ) (ms : List ℕ) (a : Outcome) (ms' : List ℕ)
    → EndsByPartition (ids_answer p bs k) los his ms a ms' → OutcomeNumbered a
numbered_by_partition p bs k los his ms a ms' d = outcome_fine a

pub numbered_list : (x : Mem) (k : ListAsk) (ids : List ℤ) (ns : List ℕ) (a : Outcome) (ns' : List ℕ) → AnswersAll x k ids ns a ns' → OutcomeNumbered a
numbered_list x k ids ns a ns' d = outcome_fine a

-- What each call answers, and the set after it.
use Rattle.std.specs.Prelude.{ℕ, ◌/◌, Bool, true, false, cond, not, eqb, ℤ, pos, negsuc, Some, None, Ok, Err}
use Rattle.sums.specs.Ids.{has, count, total, rank, RankIf, ranked, none, rank_if, any_in_range}
use Rattle.document.specs.Sizes.{top, last_chunk}
use Rattle.document.specs.State.{State, is_present}
use Rattle.document.specs.Refusals.{is_ranked, is_open}
use Rattle.document.specs.Insert.{done, new_answer, prepared_answer, inserted}
use Rattle.document.specs.Prepare.{prepare_answer, readied}
use Rattle.document.specs.Iteration.{listing}
use Rattle.document.specs.Calls.{Call, insert, put, prepared, prepare, rank_up, leave, Said, whether, that, many, maybe, listed}
use Rattle.document.specs.Calls.{Ask, get, range_test, chunk_id, len, is_empty, has_any, chunk_count, iterate, rank_of, rank_if_set, total_count, check}
use Rattle.document.specs.declared.sizes.Sizes.{Sizes}
use Rattle.document.specs.Results.{Amount, Outcome, Perhaps}

-- ---- calls that change a set

unfoldable pub rank_up_answer : State → Outcome
rank_up_answer q = cond q.mode (Err is_ranked) (Ok tt)

unfoldable pub leave_answer : State → Outcome
leave_answer q = cond q.mode (Ok tt) (Err is_open)

abbrev pub answer : State → Call → Said
answer q (insert z) = whether (new_answer q z)
answer q (put z) = that (done (new_answer q z))
answer q (prepared z) = whether (prepared_answer q z)
answer q (prepare z) = that (prepare_answer q z)
answer q rank_up = that (rank_up_answer q)
answer q leave = that (leave_answer q)

abbrev pub in_mode : State → Bool → State
in_mode q b = record { sizes = q.sizes; mode = b; members = q.members; map = q.map }

-- a refused call: the set as it was
abbrev pub after : State → Call → State
after q (insert z) = inserted q z (new_answer q z)
after q (put z) = inserted q z (new_answer q z)
after q (prepared z) = inserted q z (prepared_answer q z)
after q (prepare z) = readied q z (prepare_answer q z)
after q rank_up = in_mode q true
after q leave = in_mode q false

-- ---- calls that read one

-- the chunk id, none for a negative id
abbrev pub chunk_in : Sizes → ℤ → Perhaps
chunk_in h (pos n) = Ok (Some (n / top h))
chunk_in h (negsuc n) = Ok None

-- the chunks of the map, empty dense ones too
unfoldable pub chunks_in : State → ℕ
chunks_in q = count (λ (c : ℕ). is_present (q.map c)) (last_chunk q.sizes)

abbrev pub perhaps_rank : RankIf → Perhaps
perhaps_rank (ranked k) = Ok (Some k)
perhaps_rank none = Ok None

-- 5 on an open set
unfoldable pub rank_answer : State → ℤ → Amount
rank_answer q z = cond q.mode (Ok (rank q.members z)) (Err is_open)

unfoldable pub rank_if_answer : State → ℤ → Perhaps
rank_if_answer q z = cond q.mode (perhaps_rank (rank_if q.members z)) (Err is_open)

unfoldable pub total_answer : State → Amount
total_answer q = cond q.mode (Ok (total q.members)) (Err is_open)

abbrev pub reply : State → Ask → Said
reply q (get z) = whether (Ok (has q.members z))
reply q (range_test lo hi) = whether (Ok (any_in_range q.members lo hi))
reply q (chunk_id z) = maybe (chunk_in q.sizes z)
reply q len = many (Ok (total q.members))
reply q is_empty = whether (Ok (eqb (total q.members) 0))
reply q has_any = whether (Ok (not (eqb (chunks_in q) 0)))
reply q chunk_count = many (Ok (chunks_in q))
reply q (iterate z) = listed (listing q.members z)
reply q (rank_of z) = many (rank_answer q z)
reply q (rank_if_set z) = maybe (rank_if_answer q z)
reply q total_count = many (total_answer q)
reply q check = whether (Ok true)

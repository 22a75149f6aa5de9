-- What document 01 says of every call at once: a refusal leaves the set, an accepted id is a member, modes refuse with 4 and 5, and reading works in both. Assumes nothing.
use mathlib.Core.Path.{◌≡◌, refl, ap, ◌∙◌}
use mathlib.Core.Bool.{Bool, true, false, cond, ◌||◌}
use Prim.Native.Nat.{ℕ}
use native.Mathlib.Omega.{arith}
use lib.IntN.{ℤ, pos, negsuc}
use borrow.Author.Tests.{eq-eqb}
use Rattle.document.specs.State.{State}
use Rattle.document.specs.Refusals.{is_ranked, is_open}
use Rattle.document.specs.Insert.{done, new_answer, prepared_answer, inserted}
use Rattle.document.specs.Prepare.{prepare_answer, readied}
use Rattle.document.specs.Calls.{Call, insert, put, prepared, prepare, rank_up, leave, whether, that, many, maybe, Refuses}
use Rattle.document.specs.Calls.{Ask, get, range_test, chunk_id, len, is_empty, has_any, chunk_count, iterate, rank_of, rank_if_set, total_count, check}
use Rattle.document.specs.Answers.{rank_up_answer, leave_answer, answer, in_mode, after, chunks_in, rank_answer, rank_if_answer, total_answer, reply}
use Rattle.document.specs.Results.{Outcome, Truth}
use Rattle.std.specs.Prelude.{Err, Ok}

-- ---- a refused call leaves the set as it was

inserted_same : (q : State) (z : ℤ) (a : Truth) (n : ℕ) → Refuses (whether a) n → inserted q z a ≡ q
inserted_same q z (Ok b) n r = absurd r
inserted_same q z (Err k) n r = refl

put_same : (q : State) (z : ℤ) (a : Truth) (n : ℕ) → Refuses (that (done a)) n → inserted q z a ≡ q
put_same q z (Ok b) n r = absurd r
put_same q z (Err k) n r = refl

readied_same : (q : State) (z : ℤ) (a : Outcome) (n : ℕ) → Refuses (that a) n → readied q z a ≡ q
readied_same q z (Ok tt) n r = absurd r
readied_same q z (Err k) n r = refl

in_mode_law : (q : State) (b : Bool) → q.mode ≡ b → in_mode q b ≡ q
in_mode_law q b e = ap (λ (m : Bool). in_mode q m) (let f : b ≡ q.mode = cc in f)

ranked_same : (q : State) (b : Bool) → q.mode ≡ b → (n : ℕ) → Refuses (that (cond b (Err is_ranked) (Ok tt))) n → in_mode q true ≡ q
ranked_same q true e n r = in_mode_law q true e
ranked_same q false e n r = absurd r

left_same : (q : State) (b : Bool) → q.mode ≡ b → (n : ℕ) → Refuses (that (cond b (Ok tt) (Err is_open))) n → in_mode q false ≡ q
left_same q true e n r = absurd r
left_same q false e n r = in_mode_law q false e

pub refused_same : (q : State) (c : Call) (n : ℕ) → Refuses (answer q c) n → after q c ≡ q
unfolding rank_up_answer leave_answer
refused_same q (insert z) n r = inserted_same q z (new_answer q z) n r
refused_same q (put z) n r = put_same q z (new_answer q z) n r
refused_same q (prepared z) n r = inserted_same q z (prepared_answer q z) n r
refused_same q (prepare z) n r = readied_same q z (prepare_answer q z) n r
refused_same q rank_up n r = ranked_same q q.mode refl n r
refused_same q leave n r = left_same q q.mode refl n r

-- ---- an accepted id is a member

or_true : (b : Bool) → (b || true) ≡ true
or_true true = refl
or_true false = refl

pub inserted_member : (q : State) (n : ℕ) (b : Bool) → (inserted q (pos n) (Ok b)).members n ≡ true
inserted_member q n b = ap (λ (c : Bool). q.members n || c) (eq-eqb n n refl) ∙ or_true (q.members n)

-- ---- modes

pub rank_up_mode : (q : State) → (after q rank_up).mode ≡ true
rank_up_mode q = refl

pub leave_mode : (q : State) → (after q leave).mode ≡ false
leave_mode q = refl

module _ (q : State) (e : q.mode ≡ true) where
  -- insert of either sort, preparation, ranking: 4 on a ranked set
  pub ranked_insert : (z : ℤ) → answer q (insert z) ≡ whether (Err is_ranked)
  unfolding new_answer
  ranked_insert (pos n) = rw e
  ranked_insert (negsuc n) = rw e

  pub ranked_prepared : (z : ℤ) → answer q (prepared z) ≡ whether (Err is_ranked)
  unfolding prepared_answer
  ranked_prepared (pos n) = rw e
  ranked_prepared (negsuc n) = rw e

  pub ranked_prepare : (z : ℤ) → answer q (prepare z) ≡ that (Err is_ranked)
  unfolding prepare_answer
  ranked_prepare (pos n) = rw e
  ranked_prepare (negsuc n) = rw e

  pub ranked_again : answer q rank_up ≡ that (Err is_ranked)
  unfolding rank_up_answer
  ranked_again = rw e

module _ (q : State) (e : q.mode ≡ false) where
  -- ranks and leaving: 5 on an open set
  pub open_rank : (z : ℤ) → reply q (rank_of z) ≡ many (Err is_open)
  unfolding rank_answer
  open_rank z = rw e

  pub open_rank_if : (z : ℤ) → reply q (rank_if_set z) ≡ maybe (Err is_open)
  unfolding rank_if_answer
  open_rank_if z = rw e

  pub open_total : reply q total_count ≡ many (Err is_open)
  unfolding total_answer
  open_total = rw e

  pub open_leave : answer q leave ≡ that (Err is_open)
  unfolding leave_answer
  open_leave = rw e

-- membership, range test, counts and iteration don't ask for the mode
abbrev Reads : Ask → Bool
Reads (get z) = true
Reads (range_test lo hi) = true
Reads (chunk_id z) = true
Reads len = true
Reads is_empty = true
Reads has_any = true
Reads chunk_count = true
Reads (iterate z) = true
Reads (rank_of z) = false
Reads (rank_if_set z) = false
Reads total_count = false
Reads check = true

needs_mode : false ≡ true → ⊥
needs_mode e = let z : ◌≡◌ {A = ℕ} 0 1 = cc in omega arith

pub both_modes : (q : State) (b : Bool) (k : Ask) → Reads k ≡ true → reply (in_mode q b) k ≡ reply q k
unfolding chunks_in
both_modes q b (get z) r = refl
both_modes q b (range_test lo hi) r = refl
both_modes q b (chunk_id z) r = refl
both_modes q b len r = refl
both_modes q b is_empty r = refl
both_modes q b has_any r = refl
both_modes q b chunk_count r = refl
both_modes q b (iterate z) r = refl
both_modes q b (rank_of z) r = absurd (needs_mode r)
both_modes q b (rank_if_set z) r = absurd (needs_mode r)
both_modes q b total_count r = absurd (needs_mode r)
both_modes q b check r = refl

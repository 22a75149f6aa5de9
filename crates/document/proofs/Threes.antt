-- No answer that document 01 gives to a call on a set is a 3. Assumes nothing.
use mathlib.Core.Path.{◌≡◌, refl, sym, ap, subst}
use mathlib.Core.Bool.{Bool, true, false, cond}
use Prim.Native.Nat.{ℕ, ◌+◌, ◌-◌, ◌/◌}
use native.Mathlib.Omega.{arith}
use lib.IntN.{ℤ, pos, negsuc}
use lib.Dec.{leb, ltb}
use Rattle.sums.specs.Ids.{Ids, total, rank, RankIf, rank_if}
use Rattle.sums.specs.Cuts.{parts}
use Rattle.sums.specs.Members.{nth}
use Rattle.document.specs.Sizes.{top}
use Rattle.document.specs.State.{Kind, absent, sparse, dense, State}
use Rattle.document.specs.Refusals.{number, is_ranked, is_open, sizes_differ, no_room, not_laid_out, not_prepared, overflow_full, pages_full, rows_full}
use Rattle.document.specs.Room.{overflows, sparses, denses, verdict}
use Rattle.document.specs.Insert.{grown_map, new_answer, if_dense, prepared_answer, done}
use Rattle.document.specs.Prepare.{dense_map, prepare_answer}
use Rattle.document.specs.Union.{Join, barred, same_shape, union_map, union_answer}
use Rattle.document.specs.Iteration.{left_from, first_of, listing}
use Rattle.document.specs.Calls.{Call, insert, put, prepared, prepare, rank_up, leave, Said, whether, that, many, maybe, listed, Refuses}
use Rattle.document.specs.Calls.{Ask, get, range_test, chunk_id, len, is_empty, has_any, chunk_count, iterate, rank_of, rank_if_set, total_count, check}
use Rattle.document.specs.Answers.{rank_up_answer, leave_answer, answer, chunk_in, perhaps_rank, rank_answer, rank_if_answer, total_answer, reply}
use Rattle.document.specs.Plan.{plan_of, plan_answer}
use Rattle.document.specs.declared.sizes.Sizes.{Sizes}
use Rattle.document.specs.declared.plan.Plan.{Plan}
use Rattle.document.specs.Results.{Outcome, Planning, Truth}
use Rattle.std.specs.Prelude.{Err, Ok}
use Rattle.document.specs.declared.refusal.Refusal.{Refusal}

abbrev pub Not3 : Said → Type 0
Not3 a = Refuses a 3 → ⊥

-- whichever of two is said
either : {A : Type 0} (say : A → Said) (b : Bool) (s t : A) → Not3 (say s) → Not3 (say t) → Not3 (say (cond b s t))
either say true s t p q = p
either say false s t p q = q

verdict_not : (h : Sizes) (k : ℕ → Kind) (a : Truth) → Not3 (whether a) → Not3 (whether (verdict h k a))
unfolding verdict
verdict_not h k a p =
    let eight = cond (ltb h.p (denses h k)) (Err pages_full) a in
    let seven = cond (ltb h.r (sparses h k)) (Err rows_full) eight in
    either whether (ltb h.v (overflows h k)) (Err overflow_full) seven (λ e. omega arith)
    (either whether (ltb h.r (sparses h k)) (Err rows_full) eight (λ e. omega arith)
    (either whether (ltb h.p (denses h k)) (Err pages_full) a (λ e. omega arith) p))

done_not : (a : Truth) → Not3 (whether a) → Not3 (that (done a))
done_not (Ok b) p = p
done_not (Err n) p = p

dense_not : (k : Kind) (b : Bool) → Not3 (whether (if_dense k (Ok b)))
dense_not absent b = λ e. omega arith
dense_not sparse b = λ e. omega arith
dense_not dense b = λ e. e

new_not : (q : State) (z : ℤ) → Not3 (whether (new_answer q z))
unfolding new_answer
new_not q (pos n) =
    let room = verdict q.sizes (grown_map q (n / top q.sizes)) (Ok true) in
    either whether q.mode (Err is_ranked) (cond (q.members n) (Ok false) room) (λ e. omega arith)
    (either whether (q.members n) (Ok false) room (λ e. e) (verdict_not q.sizes (grown_map q (n / top q.sizes)) (Ok true) (λ e. e)))
new_not q (negsuc n) = either whether q.mode (Err is_ranked) (Ok false) (λ e. omega arith) (λ e. e)

prepared_not : (q : State) (z : ℤ) → Not3 (whether (prepared_answer q z))
unfolding prepared_answer
prepared_not q (pos n) =
    let k = q.map (n / top q.sizes) in
    let b = cond (q.members n) false true in
    either whether q.mode (Err is_ranked) (if_dense k (Ok b)) (λ e. omega arith) (dense_not k b)
prepared_not q (negsuc n) = either whether q.mode (Err is_ranked) (Err not_prepared) (λ e. omega arith) (λ e. omega arith)

prepare_not : (q : State) (z : ℤ) → Not3 (that (prepare_answer q z))
unfolding prepare_answer
prepare_not q (pos n) =
    let map = dense_map q (n / top q.sizes) in
    either that q.mode (Err is_ranked) (done (verdict q.sizes map (Ok true))) (λ e. omega arith)
    (done_not (verdict q.sizes map (Ok true)) (verdict_not q.sizes map (Ok true) (λ e. e)))
prepare_not q (negsuc n) = either that q.mode (Err is_ranked) (Ok tt) (λ e. omega arith) (λ e. e)

pub answer_not_three : (q : State) (c : Call) → Not3 (answer q c)
unfolding rank_up_answer leave_answer
answer_not_three q (insert z) = new_not q z
answer_not_three q (put z) = done_not (new_answer q z) (new_not q z)
answer_not_three q (prepared z) = prepared_not q z
answer_not_three q (prepare z) = prepare_not q z
answer_not_three q rank_up = either that q.mode (Err is_ranked) (Ok tt) (λ e. omega arith) (λ e. e)
answer_not_three q leave = either that q.mode (Ok tt) (Err is_open) (λ e. e) (λ e. omega arith)

union_not : (q p : State) (j : Join) → Not3 (that (union_answer q p j))
unfolding union_answer
union_not q p j =
    let room = verdict q.sizes (union_map q p) (Ok true) in
    either that (barred q p j) (Err is_ranked) (cond (same_shape q.sizes p.sizes) (done room) (Err sizes_differ)) (λ e. omega arith)
    (either that (same_shape q.sizes p.sizes) (done room) (Err sizes_differ)
    (done_not room (verdict_not q.sizes (union_map q p) (Ok true) (λ e. e))) (λ e. omega arith))

pub union_not_three : (q p : State) (j : Join) → union_answer q p j ≡ Err not_laid_out → ⊥
union_not_three q p j e = union_not q p j (subst (λ (a : Outcome). Refuses (that a) 3) (sym e) refl)

chunk_not : (h : Sizes) (z : ℤ) → Not3 (maybe (chunk_in h z))
chunk_not h (pos n) = λ e. e
chunk_not h (negsuc n) = λ e. e

rank_if_not : (a : RankIf) → Not3 (maybe (perhaps_rank a))
rank_if_not (RankIf.ranked k) = λ e. e
rank_if_not RankIf.none = λ e. e

listing_not : (P : Ids) (z : ℤ) → Not3 (listed (listing P z))
unfolding listing
listing_not P z =
    either listed (leb (left_from P z) 64) (first_of P z (left_from P z) true z) (first_of P z 64 false (pos (nth P (rank P z + 63) + 1))) (λ e. e) (λ e. e)

pub reply_not_three : (q : State) (a : Ask) → Not3 (reply q a)
unfolding rank_answer rank_if_answer total_answer
reply_not_three q (get z) = λ e. e
reply_not_three q (range_test lo hi) = λ e. e
reply_not_three q (chunk_id z) = chunk_not q.sizes z
reply_not_three q len = λ e. e
reply_not_three q is_empty = λ e. e
reply_not_three q has_any = λ e. e
reply_not_three q chunk_count = λ e. e
reply_not_three q (iterate z) = listing_not q.members z
reply_not_three q (rank_of z) = either many q.mode (Ok (rank q.members z)) (Err is_open) (λ e. e) (λ e. omega arith)
reply_not_three q (rank_if_set z) = either maybe q.mode (perhaps_rank (rank_if q.members z)) (Err is_open) (rank_if_not (rank_if q.members z)) (λ e. omega arith)
reply_not_three q total_count = either many q.mode (Ok (total q.members)) (Err is_open) (λ e. e) (λ e. omega arith)
reply_not_three q check = λ e. e

-- planning
made_not : (p : Plan) → ◌≡◌ {A = Planning} (Ok p) (Err not_laid_out) → ⊥
made_not p e = let z : ◌≡◌ {A = ℕ} 0 1 = cc in omega arith

other_not : (n : Refusal) → (number n ≡ 3 → ⊥) → ◌≡◌ {A = Planning} (Err n) (Err not_laid_out) → ⊥
other_not n d e = d (ap number (let h : n ≡ not_laid_out = cc in h))

one_of : (b : Bool) (s t : Planning) → (s ≡ Err not_laid_out → ⊥) → (t ≡ Err not_laid_out → ⊥) → cond b s t ≡ Err not_laid_out → ⊥
one_of true s t p q = p
one_of false s t p q = q

pub plan_not_three : (q : State) (S room : ℕ) → plan_answer q S room ≡ Err not_laid_out → ⊥
unfolding plan_answer
plan_not_three q S room =
    let made = Ok (plan_of (total q.members) S) in
    let full = ltb room (parts (total q.members) S - 1) in
    one_of q.mode (cond full (Err no_room) made) (Err is_open)
    (one_of full (Err no_room) made (other_not no_room (λ e. omega arith)) (made_not (plan_of (total q.members) S)))
    (other_not is_open (λ e. omega arith))

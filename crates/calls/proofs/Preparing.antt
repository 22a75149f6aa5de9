-- `pre_allocate` on memory that follows the layout does what document 01 says. Assumes nothing.
use mathlib.Core.Path.{◌≡◌, refl, sym, ap, subst, ◌∙◌}
use mathlib.Core.Bool.{Bool, true, false, cond}
use Prim.Native.Nat.{ℕ, zero, suc, ◌+◌, ◌/◌, ◌^◌, ◌≤◌, ◌<◌}
use native.Mathlib.Omega.{arith}
use lib.IntN.{ℤ, pos, negsuc}
use lib.Dec.{leb, ltb}
use mir.Val.{SFits}
use mir.Syntax.{w64}
use borrow.Author.Tests.{ltb-true, ltb-false, leb-true, leb-false, lt-ltb, le-ltb}
use Rattle.numbers.proofs.Signs.{pos_below}
use Rattle.layout.specs.Mem.{Mem}
use Rattle.document.specs.Sizes.{top, last_chunk}
use Rattle.layout.specs.Sizes.{head}
use Rattle.document.specs.State.{Kind, dense}
use Rattle.layout.specs.Meaning.{kinds, ranked, state_of}
use Rattle.layout.specs.Follows.{Follows}
use Rattle.layout.specs.Lowest.{TakesRising}
use Rattle.layout.specs.SetUp.{Did, did}
use Rattle.document.specs.declared.sizes.Sizes.{Sizes}
use Rattle.layout_laws.proofs.Walked.{laid_walked, follows_walked}
use Rattle.numbers.proofs.Splits as splits
use Rattle.calls.specs.Prepare.{densed, densed_to, chunks_to, over_needed, pages_needed, prepare_id, prepare_by}
use Rattle.document.specs.Insert.{done}
use Rattle.document.specs.Prepare.{dense_map, prepare_answer}
use Rattle.document.specs.Room.{overflows, denses, verdict}
use Rattle.calls.proofs.Outcomes.{Prepares}
use Rattle.calls.proofs.Slots.{Turn, rising_none}
use Rattle.calls.proofs.Verdicts.{verdict_six, verdict_eight, verdict_room}
use Rattle.calls.proofs.Needed.{over_needed_law, pages_needed_law, rows_enough}
use Rattle.calls.proofs.Sofar.{Sofar, sofar_none, sofar_more, sofar_takes}
use Rattle.document.specs.Results.{Outcome}
use Rattle.document.specs.Refusals.{is_ranked, not_laid_out, overflow_full, pages_full}
use Rattle.std.specs.Prelude.{Err, Ok}
use Rattle.document.specs.declared.refusal.Refusal.{Refusal}

-- ---- all chunks from 0 to c

module _ {x : Mem} (w : Follows x) (mode : ranked x ≡ false) (c : ℕ) (far : c < last_chunk (head x))
    (over : overflows (head x) (dense_map (state_of x) c) ≤ (head x).v) (pages : denses (head x) (dense_map (state_of x) c) ≤ (head x).p) where
  pub sofar : (n : ℕ) → n ≤ c + 1 → Sofar x n (densed_to (head x) x n)
  unfolding densed_to
  sofar zero l = sofar_none w
  sofar (suc n) l = go (densed_to (head x) x n) (sofar n (omega arith))
    where
      go : (y : Mem) → Sofar x n y → Sofar x (suc n) (densed (head x) y n)
      go y s = subst (λ (h : Sizes). Sofar x (suc n) (densed h y n)) s.sizes (sofar_more x mode c n (omega arith) far y s over pages)

  -- each takes the lowest free page
  sofar_rising : TakesRising x (densed_to (head x) x (c + 1)) (c + 1)
  unfolding densed_to
  sofar_rising = record {
    up_to = densed_to (head x) x;
    first = refl;
    last = refl;
    follows = λ k l. (sofar k l).follows;
    takes = λ k l. (turn k l).takes;
    others = λ k l. (turn k l).others;
  }
    where
      turn : (k : ℕ) → k < c + 1 → Turn (densed_to (head x) x k) (densed_to (head x) x (suc k)) k
      turn k l = go (densed_to (head x) x k) (sofar k (omega arith))
        where
          go : (y : Mem) → Sofar x k y → Turn y (densed (head x) y k) k
          go y s = subst (λ (h : Sizes). Turn y (densed h y k) k) s.sizes (sofar_takes x mode c k (omega arith) far y s over pages)

-- ---- what is said of the call

abbrev Says : Mem → ℤ → Did → Type 0
Says x z d = Prepares x z d.answer d.after

not_done : (n : Refusal) → ◌≡◌ {A = Outcome} (Err n) (Ok tt) → ⊥
not_done n e = cc

refuses_prepare : {x : Mem} → Follows x → (z : ℤ) (k : Refusal) → prepare_answer (state_of x) z ≡ Err k → Says x z (did (Err k) x)
refuses_prepare {x} w z k e = record {
  answer = sym e;
  follows = w;
  sizes = refl;
  mode = refl;
  refused = λ n q. refl;
  members = λ n. refl;
  map = λ q. absurd (not_done k q);
  takes = rising_none w (chunks_to (head x) z);
}

-- below the next is at most
less_next : (i c : ℕ) → ltb i (c + 1) ≡ leb i c
less_next i c = go (leb i c) refl
  where
    go : (b : Bool) → leb i c ≡ b → ltb i (c + 1) ≡ b
    go true e = lt-ltb i (c + 1) (let l = leb-true i c e in omega arith)
    go false e = le-ltb i (c + 1) (let l = leb-false i c e in omega arith)

done_prepare : {x : Mem} (n : ℕ) (y : Mem) → Sofar x (n / top (head x) + 1) y → TakesRising x y (n / top (head x) + 1)
    → prepare_answer (state_of x) (pos n) ≡ Ok tt → Says x (pos n) (did (Ok tt) y)
unfolding dense_map
done_prepare {x} n y s t e = record {
  answer = sym e;
  follows = s.follows;
  sizes = s.sizes;
  mode = s.mode;
  refused = λ k q. absurd (not_done k (sym q));
  members = s.members;
  map = λ q i. s.map i ∙ ap (λ (b : Bool). cond b dense (kinds x i)) (less_next i (n / top (head x)));
  takes = t;
}

module _ {x : Mem} (w : Follows x) where
  prepare_ranked : (z : ℤ) → ranked x ≡ true → prepare_answer (state_of x) z ≡ Err is_ranked
  unfolding prepare_answer
  prepare_ranked (pos n) e = ap (λ (t : Bool). cond t (Err is_ranked) (done (verdict (head x) (dense_map (state_of x) (n / top (head x))) (Ok true)))) e
  prepare_ranked (negsuc n) e = ap (λ (t : Bool). cond t (Err is_ranked) (Ok tt)) e

  -- a negative maximum does nothing
  nothing_done : (n : ℕ) → ranked x ≡ false → Says x (negsuc n) (did (Ok tt) x)
  unfolding prepare_answer
  nothing_done n e = record {
    answer = sym (ap (λ (t : Bool). cond t (Err is_ranked) (Ok tt)) e);
    follows = w;
    sizes = refl;
    mode = refl;
    refused = λ k q. absurd (not_done k (sym q));
    members = λ i. refl;
    map = λ q i. refl;
    takes = rising_none w 0;
  }

  module _ (n : ℕ) (small : n < 2 ^ 63) (mode : ranked x ≡ false) where
    abbrev c : ℕ
    c = n / top (head x)

    abbrev map : ℕ → Kind
    map = dense_map (state_of x) (n / top (head x))

    far : c < last_chunk (head x)
    far = let s = w.sizes.s_high in splits.chunk_below (head x).s n (omega arith) small

    wanted : prepare_answer (state_of x) (pos n) ≡ done (verdict (head x) map (Ok true))
    unfolding prepare_answer
    wanted = ap (λ (t : Bool). cond t (Err is_ranked) (done (verdict (head x) map (Ok true)))) mode

    eight : overflows (head x) map ≤ (head x).v → (b : Bool) → ltb (head x).p (pages_needed (head x) x.table c) ≡ b
        → Says x (pos n) (cond b (did (Err pages_full) x) (did (Ok tt) (densed_to (head x) x (c + 1))))
    eight ov true q =
        let l = ltb-true (head x).p (pages_needed (head x) x.table c) q in
        let i = pages_needed_law (laid_walked w) c far in
        refuses_prepare w (pos n) pages_full (wanted ∙ ap done (verdict_eight (head x) map (Ok true) ov (rows_enough w c) (omega arith)))
    eight ov false q =
        let l = ltb-false (head x).p (pages_needed (head x) x.table c) q in
        let i = pages_needed_law (laid_walked w) c far in
        let p : denses (head x) map ≤ (head x).p = omega arith in
        done_prepare n (densed_to (head x) x (c + 1)) (sofar w mode c far ov p (c + 1) (omega arith)) (sofar_rising w mode c far ov p)
        (wanted ∙ ap done (verdict_room (head x) map (Ok true) ov (rows_enough w c) p))

    six : (b : Bool) → ltb (head x).v (over_needed (head x) x.table c) ≡ b
        → Says x (pos n)
        (cond b (did (Err overflow_full) x) (cond (ltb (head x).p (pages_needed (head x) x.table c)) (did (Err pages_full) x) (did (Ok tt) (densed_to (head x) x (c + 1)))))
    six true q =
        let l = ltb-true (head x).v (over_needed (head x) x.table c) q in
        let i = over_needed_law (laid_walked w) c far in
        refuses_prepare w (pos n) overflow_full (wanted ∙ ap done (verdict_six (head x) map (Ok true) (omega arith)))
    six false q =
        let l = ltb-false (head x).v (over_needed (head x) x.table c) q in
        let i = over_needed_law (laid_walked w) c far in
        eight (omega arith) (ltb (head x).p (pages_needed (head x) x.table c)) refl

  prepare_id_law : (z : ℤ) → SFits w64 z → ranked x ≡ false → Says x z (prepare_id x z)
  prepare_id_law (pos n) f e = six n (pos_below n f) e (ltb (head x).v (over_needed (head x) x.table (n / top (head x)))) refl
  prepare_id_law (negsuc n) f e = nothing_done n e

  pub prepare_says : (z : ℤ) → SFits w64 z → Prepares x z (prepare_by x z).answer (prepare_by x z).after
  unfolding prepare_by
  prepare_says z f =
      subst (Says x z)
      (sym (ap (λ (b : Bool). cond b (cond (ranked x) (did (Err is_ranked) x) (prepare_id x z)) (did (Err not_laid_out) x)) (follows_walked w))) (go (ranked x) refl)
    where
      go : (b : Bool) → ranked x ≡ b → Says x z (cond b (did (Err is_ranked) x) (prepare_id x z))
      go true e = refuses_prepare w z is_ranked (prepare_ranked z e)
      go false e = prepare_id_law z f e

-- Union takes the lowest free row or page: chunks that become dense first, then new rows, each in rising chunk order. Assumes nothing.
use mathlib.Core.Path.{◌≡◌, refl, sym, ap, subst, ◌∙◌}
use mathlib.Core.Logic.{◌⊎◌, inl, inr, ◌≢◌}
use mathlib.Core.Bool.{Bool, true, false}
use Prim.Native.Nat.{ℕ, zero, suc, ◌≤◌, ◌<◌}
use native.Mathlib.Omega.{arith}
use lib.Dec.{ltb}
use borrow.Author.Tests.{ltb-true, ltb-false, lt-ltb, le-ltb}
use Rattle.sums.proofs.Sums.{last_or}
use Rattle.sums.proofs.Counts.{count_ext, count_none}
use Rattle.sparse.specs.Row.{below_of, Rising}
use Rattle.sparse.proofs.Rows.{below_le, below_all, below_own}
use Rattle.document.specs.Sizes.{last_chunk}
use Rattle.document.specs.State.{Kind, sparse, dense, State}
use Rattle.document.specs.Room.{overflows, sparses, denses}
use Rattle.document.specs.Union.{union_map, same_shape, united}
use Rattle.layout.specs.Mem.{Mem}
use Rattle.layout.specs.Sizes.{head}
use Rattle.layout.specs.Meaning.{kinds, ranked, state_of}
use Rattle.layout.specs.Follows.{Follows}
use Rattle.layout.specs.Lowest.{place_in, TakesRising}
use Rattle.layout.specs.declared.place.Place.{Place}
use Rattle.layout_laws.proofs.Keys.{Sought, found, missed, seek, cut_count}
use Rattle.layout_laws.proofs.Walked.{laid_walked}
use Rattle.calls.proofs.Slots.{Turn, turn_none}
use Rattle.unions.specs.Union.{source_chunk, source_entries, dense_to, sparse_to, united_by}
use Rattle.unions.specs.Takes.{TakesDenseFirst}
use Rattle.unions.proofs.Standing.{chunk_in, chunks_rise}
use Rattle.unions.proofs.Results.{same_last}
use Rattle.unions.proofs.Partly.{Goes, goes_turn, goes_lands}
use Rattle.unions.proofs.Halfway.{halfway}
use Rattle.unions.proofs.FirstPass.{first_turn, first_pass}
use Rattle.unions.proofs.SecondPass.{second_turn, second_pass}
use Rattle.unions.proofs.Passes.{halfway_there}
use Rattle.std.specs.Prelude.{Ok}

-- ---- turns at rising keys are turns of all ids below N

module _ (key : ℕ → ℕ) (n : ℕ) (up : Rising key n) where
  none_below : below_of key n 0 ≡ 0
  unfolding below_of
  none_below = count_none (λ (j : ℕ). ltb (key j) 0) n (λ j l. le-ltb (key j) 0 (omega arith))

  -- past the key of entry e
  next_below : (e : ℕ) → e < n → below_of key n (suc (key e)) ≡ suc e
  next_below e l =
      cut_count key n (suc e) (suc (key e))
      (record { fits = omega arith; before = λ j m. before j (last_or j e m); after = λ j a b. let u = up e j a b in omega arith })
    where
      before : (j : ℕ) → (j < e) ⊎ (j ≡ e) → key j < suc (key e)
      before j (inl m) = let u = up j e m l in omega arith
      before j (inr k) = let u = ap key k in omega arith

  -- an id that is no key
  skip_below : (k : ℕ) → ((e : ℕ) → e < n → key e ≢ k) → below_of key n (suc k) ≡ below_of key n k
  unfolding below_of
  skip_below k none = count_ext (λ (j : ℕ). ltb (key j) (suc k)) (λ (j : ℕ). ltb (key j) k) n (λ j l. go j (none j l) (ltb (key j) k) refl)
    where
      go : (j : ℕ) → key j ≢ k → (b : Bool) → ltb (key j) k ≡ b → ltb (key j) (suc k) ≡ ltb (key j) k
      go j d true e = lt-ltb (key j) (suc k) (let m = ltb-true (key j) k e in omega arith) ∙ sym e
      go j d false e = le-ltb (key j) (suc k) (let m = ltb-false (key j) k e in omega arith) ∙ sym e

  module _ (N : ℕ) (all : (e : ℕ) → e < n → key e < N) (up_to : ℕ → Mem) (follows : (e : ℕ) → e ≤ n → Follows (up_to e))
      (turn : (e : ℕ) → e < n → Turn (up_to e) (up_to (suc e)) (key e)) where
    abbrev at : ℕ → Mem
    at k = up_to (below_of key n k)

    id_turn : (k : ℕ) → Turn (at k) (at (suc k)) k
    id_turn k = go (seek key n k)
      where
        go : Sought key n k → Turn (at k) (at (suc k)) k
        go (found e l q) =
            subst (λ (i : ℕ). Turn (at i) (at (suc i)) i) q
            (subst (λ (i : ℕ). Turn (up_to i) (at (suc (key e))) (key e)) (sym (below_own key n up e l))
            (subst (λ (i : ℕ). Turn (up_to e) (up_to i) (key e)) (sym (next_below e l)) (turn e l)))
        go (missed none) = subst (λ (i : ℕ). Turn (at k) (up_to i) k) (sym (skip_below k none)) (turn_none (at k) k)

    rising_turns : TakesRising (up_to 0) (up_to n) N
    rising_turns = record {
      up_to = λ k. up_to (below_of key n k);
      first = ap up_to none_below;
      last = ap up_to (below_all key n N all);
      follows = λ k l. follows (below_of key n k) (below_le key n k);
      takes = λ k l. (id_turn k).takes;
      others = λ k l. (id_turn k).others;
    }

-- ---- places after a pass

module _ (k : Kind) (q : State) (key : ℕ → ℕ) (n : ℕ) (up_to : ℕ → Mem) (turn : (e : ℕ) → e < n → Goes k (up_to e) (up_to (suc e)) (key e) q) where
  lands_all : (e : ℕ) → e ≤ n → (i : ℕ) → (place_in (up_to e) i ≡ place_in (up_to 0) i) ⊎ (kinds (up_to e) i ≡ k)
  lands_all zero l i = inl refl
  lands_all (suc e) l i = goes_lands (turn e (omega arith)) i (place_in (up_to 0) i) (lands_all e (omega arith) i)

-- one that moved is of the pass's kind
moved : {p q : Place} {a k : Kind} → (p ≡ q) ⊎ (a ≡ k) → p ≢ q → a ≡ k
moved (inl e) d = absurd (d e)
moved (inr e) d = e

stayed : {p q : Place} {a : Kind} → (p ≡ q) ⊎ (a ≡ sparse) → a ≡ dense → p ≡ q
stayed (inl e) d = e
stayed (inr e) d = absurd cc

-- ---- union

module _ {x y : Mem} (w : Follows x) (v : Follows y) (mode : ranked x ≡ false) (same : same_shape (head x) (head y) ≡ true)
    (over : overflows (head x) (union_map (state_of x) (state_of y)) ≤ (head x).v) (rows : sparses (head x) (union_map (state_of x) (state_of y)) ≤ (head x).r)
    (pages : denses (head x) (union_map (state_of x) (state_of y)) ≤ (head x).p) where
  abbrev mid : Mem
  mid = dense_to x y (source_entries y)

  first_goes : (e : ℕ) (l : e < source_entries y) → Goes dense (dense_to x y e) (dense_to x y (suc e)) (source_chunk y e) (halfway (state_of x) (state_of y))
  unfolding dense_to
  first_goes e l = first_turn w mode v same over pages e l (dense_to x y e) (first_pass w mode v same over pages e (omega arith))

  second_goes : (e : ℕ) (l : e < source_entries y) → Goes sparse (sparse_to mid y e) (sparse_to mid y (suc e)) (source_chunk y e) (united (state_of x) (state_of y) (Ok tt))
  unfolding sparse_to
  second_goes e l =
      second_turn x mode v same over rows e l (sparse_to mid y e)
      (second_pass x mode v same over rows mid (halfway_there w mode v same over rows pages) e (omega arith))

  in_last : (e : ℕ) → e < source_entries y → source_chunk y e < last_chunk (head x)
  in_last e l = let a = chunk_in (laid_walked v) e l in let b = same_last x y same in omega arith

  first_rising : TakesRising x mid (last_chunk (head x))
  unfolding dense_to
  first_rising =
      rising_turns (source_chunk y) (source_entries y) (chunks_rise (laid_walked v)) (last_chunk (head x)) in_last (dense_to x y)
      (λ e l. (first_pass w mode v same over pages e l).follows) (λ e l. goes_turn (first_goes e l))

  second_rising : TakesRising mid (united_by x y) (last_chunk (head x))
  unfolding sparse_to united_by
  second_rising =
      rising_turns (source_chunk y) (source_entries y) (chunks_rise (laid_walked v)) (last_chunk (head x)) in_last (sparse_to mid y)
      (λ e l. (second_pass x mode v same over rows mid (halfway_there w mode v same over rows pages) e l).follows) (λ e l. goes_turn (second_goes e l))

  first_lands : (c : ℕ) → (place_in mid c ≡ place_in x c) ⊎ (kinds mid c ≡ dense)
  unfolding dense_to
  first_lands = lands_all dense (halfway (state_of x) (state_of y)) (source_chunk y) (source_entries y) (dense_to x y) first_goes (source_entries y) (omega arith)

  second_lands : (c : ℕ) → (place_in (united_by x y) c ≡ place_in mid c) ⊎ (kinds (united_by x y) c ≡ sparse)
  unfolding sparse_to united_by
  second_lands =
      lands_all sparse (united (state_of x) (state_of y) (Ok tt)) (source_chunk y) (source_entries y) (sparse_to mid y) second_goes (source_entries y) (omega arith)

  pub union_takes : TakesDenseFirst x (united_by x y)
  union_takes = record {
    between = mid;
    first = first_rising;
    second = second_rising;
    made_dense = λ c. moved (first_lands c);
    all_dense = λ c. stayed (second_lands c);
    made_sparse = λ c. moved (second_lands c);
  }

-- Iteration to its end: every run of calls comes to the mark, after as few records as its members need, and they list exactly the members not below its start. Assumes nothing.
use mathlib.Core.Path.{◌≡◌, refl, sym, ap, ap₂, subst, ◌∙◌}
use mathlib.Core.Logic.{◌⊎◌, inl, inr}
use mathlib.Core.Bool.{Bool, true, false}
use mathlib.Core.List.{List, [], ◌∷◌, ◌++◌, map, append-nil, map-append}
use Prim.Native.Nat.{ℕ, zero, suc, ◌+◌, ◌-◌, ◌/◌, ◌≤◌, ◌<◌, min}
use native.Mathlib.Omega.{arith}
use lib.Dec.{leb}
use lib.IntN.{ℤ, pos, negsuc}
use lib.ListN.{length, get_or, take, length-append, length-map, get_or-map}
use lib.Signed.{le_z, lt_z}
use borrow.Author.Tests.{leb-true, leb-false, le-leb, lt-ltb}
use Rattle.sums.specs.Ids.{Ids, count, total, rank}
use Rattle.sums.specs.Cuts.{parts}
use Rattle.sums.specs.Members.{nth, nth_from}
use Rattle.sums.proofs.Least.{count_before}
use Rattle.sums.proofs.Ranks.{count_member, rank_mono, rank_below}
use Rattle.sums.proofs.Members.{nth_is, nth_has, nth_from_split, nth_from_length, nth_from_at}
use Rattle.document.specs.Iteration.{left_from, listing}
use Rattle.document.specs.Listings.{Begun, Chain, listed_ids, MemberFrom, ListsFrom}
use Rattle.document.specs.declared.answer.Listing.{Listing}
use Rattle.document.proofs.Iteration.{listing_taken, mark_set, mark_clear, next_rank, next_left}

module _ (P : Ids) where
  -- after a record there is nothing, or a chain from its next start
  chain_rest : (start : ℤ) (r : Listing) (rs : List Listing) → Chain P start (r ∷ rs) → ((left_from P start ≤ 64) × (rs ≡ [])) ⊎ ((64 < left_from P start) × Chain P r.next rs)
  unfolding Chain
  chain_rest start r rs c = go (leb (left_from P start) 64) refl
    where
      go : (b : Bool) → leb (left_from P start) 64 ≡ b → ((left_from P start ≤ 64) × (rs ≡ [])) ⊎ ((64 < left_from P start) × Chain P r.next rs)
      go true e = let l = leb-true (left_from P start) 64 e in inl (l, c.1 (mark_set P start r c.0 l))
      go false e = let l = leb-false (left_from P start) 64 e in inr (l, c.2 (mark_clear P start r c.0 l))

  -- ---- how long it is

  -- as many records as the members not below start need, at least one
  pub chain_count : (start : ℤ) (rs : List Listing) → Chain P start rs → length rs ≡ parts (left_from P start) 64
  unfolding Chain
  chain_count start [] c = absurd c
  chain_count start (r ∷ rs) c = go (chain_rest start r rs c) (chain_count r.next rs)
    where
      go : ((left_from P start ≤ 64) × (rs ≡ [])) ⊎ ((64 < left_from P start) × Chain P r.next rs) → (Chain P r.next rs → length rs ≡ parts (left_from P r.next) 64)
          → suc (length rs) ≡ parts (left_from P start) 64
      go (inl w) ih = let l = w.0 in omega (arith, ap length w.1)
      go (inr w) ih = let l = w.0 in omega (arith, next_left P start r c.0 l, ih w.1)

  pub chain_short : (start : ℤ) (rs : List Listing) → Chain P start rs → length rs ≤ total P / 64 + 1
  chain_short start rs c = omega (arith, chain_count start rs c)

  -- ---- every run of calls comes to its end

  -- a record whose mark is set ends a chain, one whose mark is clear goes on
  chain_end : (start : ℤ) (r : Listing) (rs : List Listing) → r ≡ listing P start → left_from P start ≤ 64 → rs ≡ [] → Chain P start (r ∷ rs)
  unfolding Chain
  chain_end start r rs q l e = (q, (λ m. e), λ m. let s = mark_set P start r q l in absurd (let z : ◌≡◌ {A = ℕ} 0 1 = cc in omega arith))

  chain_on : (start : ℤ) (r : Listing) (rs : List Listing) → r ≡ listing P start → 64 < left_from P start → Chain P r.next rs → Chain P start (r ∷ rs)
  unfolding Chain
  chain_on start r rs q l c = (q, (λ m. let s = mark_clear P start r q l in absurd (let z : ◌≡◌ {A = ℕ} 0 1 = cc in omega arith)), λ m. c)

  chain_to : (n : ℕ) (start : ℤ) → left_from P start ≤ n → (rs : List Listing) × Chain P start rs
  chain_to zero start h = (listing P start ∷ [], chain_end start (listing P start) [] refl (omega arith) refl)
  chain_to (suc n) start h = go (leb (left_from P start) 64) refl (chain_to n (listing P start).next)
    where
      go : (b : Bool) → leb (left_from P start) 64 ≡ b → (left_from P (listing P start).next ≤ n → (rs : List Listing) × Chain P (listing P start).next rs) → (rs : List Listing) × Chain P start rs
      go true e ih = (listing P start ∷ [], chain_end start (listing P start) [] refl (leb-true (left_from P start) 64 e) refl)
      go false e ih =
          let l = leb-false (left_from P start) 64 e in
          let f = ih (omega (arith, next_left P start (listing P start) refl l)) in
          (listing P start ∷ f.0, chain_on start (listing P start) f.0 refl l f.1)

  pub chain_there : (start : ℤ) → (rs : List Listing) × Chain P start rs
  chain_there start = chain_to (left_from P start) start (omega arith)

  -- calls made so far go on to one
  pub begun_chain : (start : ℤ) (rs : List Listing) → Begun P start rs → (qs : List Listing) × Chain P start (rs ++ qs)
  unfolding Begun
  begun_chain start [] b = chain_there start
  begun_chain start (r ∷ rs) b = go (leb (left_from P start) 64) refl (begun_chain r.next rs)
    where
      go : (t : Bool) → leb (left_from P start) 64 ≡ t → (Begun P r.next rs → (qs : List Listing) × Chain P r.next (rs ++ qs)) → (qs : List Listing) × Chain P start (r ∷ (rs ++ qs))
      go true e ih = let l = leb-true (left_from P start) 64 e in ([], chain_end start r (rs ++ []) b.0 l (append-nil rs ∙ b.1 (mark_set P start r b.0 l)))
      go false e ih =
          let l = leb-false (left_from P start) 64 e in
          let f = ih (b.2 (mark_clear P start r b.0 l)) in
          (f.0, chain_on start r (rs ++ f.0) b.0 l f.1)

  pub begun_short : (start : ℤ) (rs : List Listing) → Begun P start rs → length rs ≤ total P / 64 + 1
  begun_short start rs b = let f = begun_chain start rs b in omega (arith, chain_short start (rs ++ f.0) f.1, length-append rs f.0)

  -- ---- what a chain lists

  -- all members from the start's rank on, in order
  chain_ids : (start : ℤ) (rs : List Listing) → Chain P start rs → listed_ids rs ≡ map pos (nth_from P (rank P start) (left_from P start))
  unfolding Chain listed_ids
  chain_ids start [] c = absurd c
  chain_ids start (r ∷ rs) c = go (chain_rest start r rs c) (chain_ids r.next rs)
    where
      ids : ℕ → ℕ → List ℤ
      ids f n = map pos (nth_from P f n)

      own : take r.count r.ids ≡ ids (rank P start) (min 64 (left_from P start))
      own = ap (λ (x : Listing). take x.count x.ids) c.0 ∙ listing_taken P start

      go : ((left_from P start ≤ 64) × (rs ≡ [])) ⊎ ((64 < left_from P start) × Chain P r.next rs) → (Chain P r.next rs → listed_ids rs ≡ ids (rank P r.next) (left_from P r.next))
          → take r.count r.ids ++ listed_ids rs ≡ ids (rank P start) (left_from P start)
      go (inl w) ih =
          let l = w.0 in
          let m : min 64 (left_from P start) ≡ left_from P start = omega arith in
          ap₂ ◌++◌ (own ∙ ap (ids (rank P start)) m) (ap listed_ids w.1) ∙ append-nil (ids (rank P start) (left_from P start))
      go (inr w) ih =
          let l = w.0 in
          let m : min 64 (left_from P start) ≡ 64 = omega arith in
          let n : 64 + (left_from P start - 64) ≡ left_from P start = omega arith in
          ap₂ ◌++◌ (own ∙ ap (ids (rank P start)) m) (ih w.1 ∙ ap₂ ids (next_rank P start r c.0 l) (next_left P start r c.0 l))
          ∙ sym (map-append pos (nth_from P (rank P start) 64) (nth_from P (rank P start + 64) (left_from P start - 64)))
          ∙ ap (map pos) (sym (nth_from_split P (rank P start) 64 (left_from P start - 64)))
          ∙ ap (ids (rank P start)) n

  -- a member of a rank that start has or more is not below it
  nth_from_start : (start : ℤ) (k : ℕ) → rank P start ≤ k → k < total P → le_z start (pos (nth P k)) ≡ true
  unfolding rank
  nth_from_start (pos a) k h l =
      let m = nth_has P k l in
      le-leb a (nth P k) (let b = count_before P (suc (nth P k)) a (omega (arith, m.1, count_member P (nth P k) m.0)) in omega arith)
  nth_from_start (negsuc a) k h l = refl

  module _ (start : ℤ) where
    abbrev in_order : List ℤ
    in_order = map pos (nth_from P (rank P start) (left_from P start))

    order_length : length in_order ≡ left_from P start
    order_length = length-map (nth_from P (rank P start) (left_from P start)) pos ∙ nth_from_length P (rank P start) (left_from P start)

    order_at : (i : ℕ) → i < left_from P start → get_or in_order i (pos 0) ≡ pos (nth P (rank P start + i))
    order_at i l = get_or-map pos (nth_from P (rank P start) (left_from P start)) i 0 ∙ ap pos (nth_from_at P (rank P start) (left_from P start) i l)

    order_rising : (i j : ℕ) → i < j → j < length in_order → lt_z (get_or in_order i (pos 0)) (get_or in_order j (pos 0)) ≡ true
    order_rising i j h l =
        let n : j < left_from P start = omega (arith, order_length) in
        let a = nth_has P (rank P start + i) (omega arith) in
        let b = nth_has P (rank P start + j) (omega arith) in
        ap₂ lt_z (order_at i (omega arith)) (order_at j n)
        ∙ lt-ltb (nth P (rank P start + i)) (nth P (rank P start + j)) (count_before P (nth P (rank P start + j)) (nth P (rank P start + i)) (omega (arith, a.1, b.1)))

    order_only : (i : ℕ) → i < length in_order → MemberFrom P start (get_or in_order i (pos 0))
    order_only i l =
        let n : i < left_from P start = omega (arith, order_length) in
        let a = nth_has P (rank P start + i) (omega arith) in
        let f = nth_from_start start (rank P start + i) (omega arith) (omega arith) in
        subst (λ (z : ℤ). MemberFrom P start z) (sym (order_at i n)) (record { fits = record { sfits = a.2 }; member = a.0; from = f })

    order_every : (z : ℤ) → MemberFrom P start z → (i : ℕ) × (i < length in_order) × (get_or in_order i (pos 0) ≡ z)
    unfolding rank
    order_every (pos n) m =
        let a = rank_mono P start (pos n) m.from in
        let b = rank_below P (pos n) m.fits m.member in
        let e : rank P start + (count P n - rank P start) ≡ count P n = omega arith in
        let w = order_at (count P n - rank P start) (omega arith) ∙ ap (λ (k : ℕ). pos (nth P k)) e ∙ ap pos (nth_is P n m.fits.sfits m.member) in
        (count P n - rank P start, omega (arith, order_length), w)
    order_every (negsuc n) m = absurd (let e = m.member in let z : ◌≡◌ {A = ℕ} 0 1 = cc in omega arith)

  pub chain_lists : (start : ℤ) (rs : List Listing) → Chain P start rs → ListsFrom P start (listed_ids rs)
  chain_lists start rs c =
      let w : ListsFrom P start (in_order start) = record { rising = order_rising start; only = order_only start; every = order_every start } in
      subst (λ (zs : List ℤ). ListsFrom P start zs) (sym (chain_ids start rs c)) w

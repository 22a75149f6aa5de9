-- Iteration, one record: how many ids it holds and which, its mark, and where the next one starts. Assumes nothing.
use mathlib.Core.Path.{◌≡◌, refl, sym, ap, ap₂, ◌∙◌}
use mathlib.Core.Logic.{inr}
use mathlib.Core.Bool.{Bool, true, false, cond}
use mathlib.Core.List.{List, map}
use Prim.Native.Nat.{ℕ, zero, suc, ◌+◌, ◌-◌, ◌≤◌, ◌<◌, min}
use native.Mathlib.Nat.{sub-zero}
use native.Mathlib.Numerals.{add-one}
use native.Mathlib.Omega.{arith}
use lib.Dec.{leb}
use lib.IntN.{ℤ, pos}
use lib.ListN.{length, get_or, take, replicate, length-replicate, length-take, length-map, get_or-map}
use lib.Seq.{get_or-take, ext_get_or}
use borrow.Author.Tests.{leb-true, leb-false, le-leb, lt-leb}
use mir.Syntax.{w64}
use mir.Val.{SFits}
use Rattle.sums.specs.Ids.{Ids, count, rank}
use Rattle.sums.specs.Members.{nth, nth_from, fill}
use Rattle.sums.proofs.Least.{count_before}
use Rattle.sums.proofs.Ranks.{count_member}
use Rattle.sums.proofs.Members.{nth_has, nth_from_length, nth_from_at, fill_length, fill_at, fill_other}
use Rattle.document.specs.Iteration.{blank, left_from, first_of, listing}
use Rattle.document.specs.declared.answer.Listing.{Listing}

-- ---- the places of a record

zeros : (n i : ℕ) → get_or (replicate n (pos 0)) i (pos 0) ≡ pos 0
zeros zero i = refl
zeros (suc n) zero = refl
zeros (suc n) (suc i) = zeros n i

fill_front : (out : List ℤ) (ns : List ℕ) → length ns ≤ length out → take (length ns) (fill out 0 ns) ≡ map pos ns
fill_front out ns l = ext_get_or (pos 0) (take (length ns) (fill out 0 ns)) (map pos ns)
    (omega (arith, length-take (length ns) (fill out 0 ns), fill_length out 0 ns, length-map ns pos))
    (λ i w. at i (omega (arith, length-take (length ns) (fill out 0 ns))))
  where
    at : (i : ℕ) → i < length ns → get_or (take (length ns) (fill out 0 ns)) i (pos 0) ≡ get_or (map pos ns) i (pos 0)
    at i h =
        get_or-take (length ns) (fill out 0 ns) i (pos 0) h
        ∙ fill_at out 0 ns i (omega arith) (omega arith) (omega arith)
        ∙ ap (λ (j : ℕ). pos (get_or ns j 0)) (sub-zero i)
        ∙ sym (get_or-map pos ns i 0)

-- ---- one record

module _ (P : Ids) (start : ℤ) where
  -- its two forms, by the mark
  abbrev marked : Bool → Listing
  marked b = cond b (first_of P start (left_from P start) true start) (first_of P start 64 false (pos (nth P (rank P start + 63) + 1)))

  -- how many members it holds
  abbrev some : ℕ
  some = min 64 (left_from P start)

  pub listing_last : left_from P start ≤ 64 → listing P start ≡ first_of P start (left_from P start) true start
  unfolding listing
  listing_last l = ap marked (le-leb (left_from P start) 64 l)

  pub listing_more : 64 < left_from P start → listing P start ≡ first_of P start 64 false (pos (nth P (rank P start + 63) + 1))
  unfolding listing
  listing_more l = ap marked (lt-leb (left_from P start) 64 l)

  -- a fact of both forms
  by_mark : (A : Listing → Type 0) → ((b : Bool) → leb (left_from P start) 64 ≡ b → A (marked b)) → A (listing P start)
  unfolding listing
  by_mark A h = h (leb (left_from P start) 64) refl

  -- the mark: no member not below start is left out
  pub listing_end : (listing P start).end ≡ leb (left_from P start) 64
  listing_end = by_mark (λ r. r.end ≡ leb (left_from P start) 64) go
    where
      go : (b : Bool) → leb (left_from P start) 64 ≡ b → (marked b).end ≡ leb (left_from P start) 64
      go true e = sym e
      go false e = sym e

  pub listing_count : (listing P start).count ≡ min 64 (left_from P start)
  listing_count = by_mark (λ r. r.count ≡ some) go
    where
      go : (b : Bool) → leb (left_from P start) 64 ≡ b → (marked b).count ≡ some
      go true e = omega (arith, leb-true (left_from P start) 64 e)
      go false e = omega (arith, leb-false (left_from P start) 64 e)

  pub listing_ids : (listing P start).ids ≡ fill blank 0 (nth_from P (rank P start) (min 64 (left_from P start)))
  listing_ids = by_mark (λ r. r.ids ≡ fill blank 0 (nth_from P (rank P start) some)) go
    where
      go : (b : Bool) → leb (left_from P start) 64 ≡ b → (marked b).ids ≡ fill blank 0 (nth_from P (rank P start) some)
      go true e = let m : left_from P start ≡ some = omega (arith, leb-true (left_from P start) 64 e) in ap (λ (n : ℕ). fill blank 0 (nth_from P (rank P start) n)) m
      go false e = let m : 64 ≡ some = omega (arith, leb-false (left_from P start) 64 e) in ap (λ (n : ℕ). fill blank 0 (nth_from P (rank P start) n)) m

  pub listing_refusal : (listing P start).refusal ≡ 0
  listing_refusal = by_mark (λ r. r.refusal ≡ 0) go
    where
      go : (b : Bool) → leb (left_from P start) 64 ≡ b → (marked b).refusal ≡ 0
      go true e = refl
      go false e = refl

  -- place i holds the member that comes i after the first not below start
  pub listing_at : (i : ℕ) → i < (listing P start).count → get_or (listing P start).ids i (pos 0) ≡ pos (nth P (rank P start + i))
  listing_at i l =
      let m : i < some = omega (arith, listing_count) in
      let b : length blank ≡ 64 = length-replicate 64 (pos 0) in
      ap (λ (zs : List ℤ). get_or zs i (pos 0)) listing_ids
      ∙ fill_at blank 0 (nth_from P (rank P start) some) i (omega arith) (omega (arith, nth_from_length P (rank P start) some)) (omega arith)
      ∙ ap (λ (j : ℕ). pos (get_or (nth_from P (rank P start) some) j 0)) (sub-zero i)
      ∙ ap pos (nth_from_at P (rank P start) some i m)

  pub listing_unused : (i : ℕ) → (listing P start).count ≤ i → get_or (listing P start).ids i (pos 0) ≡ pos 0
  listing_unused i l =
      ap (λ (zs : List ℤ). get_or zs i (pos 0)) listing_ids
      ∙ fill_other blank 0 (nth_from P (rank P start) some) i (inr (omega (arith, listing_count, nth_from_length P (rank P start) some)))
      ∙ zeros 64 i

  -- its ids without the unused places
  pub listing_taken : take (listing P start).count (listing P start).ids ≡ map pos (nth_from P (rank P start) (min 64 (left_from P start)))
  listing_taken =
      let n = nth_from_length P (rank P start) some in
      let b : length blank ≡ 64 = length-replicate 64 (pos 0) in
      ap₂ take (listing_count ∙ sym n) listing_ids ∙ fill_front blank (nth_from P (rank P start) some) (omega arith)

  -- any record that is the one from start
  module _ (r : Listing) (q : r ≡ listing P start) where
    pub mark_set : left_from P start ≤ 64 → r.end ≡ true
    mark_set l = ap (λ (x : Listing). x.end) (q ∙ listing_last l)

    module _ (l : 64 < left_from P start) where
      pub mark_clear : r.end ≡ false
      mark_clear = ap (λ (x : Listing). x.end) (q ∙ listing_more l)

      -- 64 more members lie below the next start
      pub next_rank : rank P r.next ≡ rank P start + 64
      unfolding rank
      next_rank =
          let h = nth_has P (rank P start + 63) (omega arith) in
          ap (λ (x : Listing). rank P x.next) (q ∙ listing_more l)
          ∙ ap (count P) (add-one (nth P (rank P start + 63)))
          ∙ count_member P (nth P (rank P start + 63)) h.0
          ∙ (let e = h.1 in omega arith)

      pub next_left : left_from P r.next ≡ left_from P start - 64
      next_left = omega (arith, next_rank)

      pub next_small : SFits w64 r.next
      next_small =
          let a = nth_has P (rank P start + 63) (omega arith) in
          let b = nth_has P (rank P start + 64) (omega arith) in
          let c = count_before P (nth P (rank P start + 64)) (nth P (rank P start + 63)) (omega (arith, a.1, b.1)) in
          let d : SFits w64 (pos (nth P (rank P start + 63) + 1)) = record { sfits = omega (arith, b.2) } in
          rw (q ∙ listing_more l) d

  -- the next start is an i64
  pub next_fits : SFits w64 start → SFits w64 (listing P start).next
  next_fits f = go (leb (left_from P start) 64) refl
    where
      go : (b : Bool) → leb (left_from P start) 64 ≡ b → SFits w64 (listing P start).next
      go true e = rw (listing_last (leb-true (left_from P start) 64 e)) f
      go false e = next_small (listing P start) refl (leb-false (left_from P start) 64 e)

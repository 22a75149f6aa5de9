-- `iter_from` on memory that follows the layout: document 01's record of the plain set, and never a refusal. Assumes nothing.
use mathlib.Core.Path.{◌≡◌, refl, sym, ap, ap₂, ◌∙◌}
use mathlib.Core.Bool.{Bool, true, false, cond}
use Prim.Native.Nat.{ℕ, suc, ◌+◌, ◌-◌, ◌^◌, ◌≤◌, ◌<◌, min}
use native.Mathlib.Numerals.{add-one}
use native.Mathlib.Omega.{arith}
use lib.IntN.{ℤ, pos, negsuc, suc_ℤ}
use lib.ListN.{length}
use lib.Dec.{ltb}
use borrow.Author.Tests.{ltb-true, ltb-false, lt-ltb, le-leb, lt-leb}
use Rattle.sums.specs.Ids.{Ids, count, total, rank, any_in_range}
use Rattle.sums.specs.Members.{members_in, nth, nth_from, fill}
use Rattle.sums.proofs.Counts.{count_zero, count_mono}
use Rattle.sums.proofs.Ranks.{count_member}
use Rattle.sums.proofs.Members.{members_nth, nth_has, nth_from_split, nth_from_length, nth_from_at, fill_length, fill_full, fill_then, fill_at}
use Rattle.document.specs.Refusals.{number, not_laid_out}
use Rattle.document.specs.Iteration.{blank, left_from, first_of, listing, refused_listing}
use Rattle.layout.specs.Mem.{Mem}
use Rattle.layout.specs.Meaning.{holds}
use Rattle.layout.specs.Follows.{Follows}
use Rattle.calls.specs.Range.{any_by}
use Rattle.calls.specs.Iteration.{to, filled_by, fill_from, last_id, ended, ended_by, record_by, from_zero, iter_by}
use Rattle.calls.proofs.RangeEntries.{entries_fit}
use Rattle.calls.proofs.Ranges.{any_in_range_is}
use Rattle.calls.proofs.IterationEntries.{fill_from_law}
use Rattle.std.specs.Prelude.{Ok}

-- ---- the plain set's members from a start on

module _ (P : Ids) where
  rank_from : (z : ℤ) → rank P z ≡ count P (from_zero z)
  unfolding rank
  rank_from (pos n) = refl
  rank_from (negsuc n) = sym (count_zero P)

  none_left : (n k f m : ℕ) → k ≡ 0 → m ≡ 0 → members_in P n k ≡ nth_from P f m
  unfolding members_in nth_from
  none_left n k f m p q = ap (members_in P n) p ∙ ap (nth_from P f) (sym q)

  -- from an id of 0 or more; past 2^63 there is none
  left_of : (n : ℕ) → members_in P n (2 ^ 63 - n) ≡ nth_from P (count P n) (total P - count P n)
  unfolding total
  left_of n = go (ltb (2 ^ 63) n) refl
    where
      go : (b : Bool) → ltb (2 ^ 63) n ≡ b → members_in P n (2 ^ 63 - n) ≡ nth_from P (count P n) (count P (2 ^ 63) - count P n)
      go true t =
          let l = ltb-true (2 ^ 63) n t in
          let m = count_mono P (2 ^ 63) n (omega arith) in
          none_left n (2 ^ 63 - n) (count P n) (count P (2 ^ 63) - count P n) (omega arith) (omega arith)
      go false t =
          let l = ltb-false (2 ^ 63) n t in
          let e : n + (2 ^ 63 - n) ≡ 2 ^ 63 = omega arith in
          members_nth P n (2 ^ 63 - n) (omega arith) ∙ ap (λ (k : ℕ). nth_from P (count P n) (count P k - count P n)) e

  left_is : (z : ℤ) → members_in P (from_zero z) (2 ^ 63 - from_zero z) ≡ nth_from P (rank P z) (left_from P z)
  left_is z = left_of (from_zero z) ∙ ap (λ (f : ℕ). nth_from P f (total P - f)) (sym (rank_from z))

-- ---- what stands in a record

module _ (P : Ids) (f : ℕ) where
  some_filled : (n : ℕ) → n < 64 → filled_by blank 0 (nth_from P f n) ≡ to (fill blank 0 (nth_from P f n)) n
  some_filled n l = let e : min 64 (0 + length (nth_from P f n)) ≡ n = omega (arith, nth_from_length P f n) in ap (to (fill blank 0 (nth_from P f n))) e

  -- the first 64 of them
  full_filled : (n : ℕ) → 64 ≤ n → filled_by blank 0 (nth_from P f n) ≡ to (fill blank 0 (nth_from P f 64)) 64
  full_filled n l =
      let e : min 64 (0 + length (nth_from P f n)) ≡ 64 = omega (arith, nth_from_length P f n) in
      let s : n ≡ 64 + (n - 64) = omega arith in
      let xs = nth_from P f 64 in
      let ys = nth_from P (f + 64) (n - 64) in
      ap₂ to
      (ap (fill blank 0) (ap (nth_from P f) s ∙ nth_from_split P f 64 (n - 64))
      ∙ sym (fill_then blank 0 xs ys)
      ∙ fill_full (fill blank 0 xs) (0 + length xs) ys (omega (arith, fill_length blank 0 xs, nth_from_length P f 64)))
      e

  last_is : last_id (fill blank 0 (nth_from P f 64)) ≡ pos (nth P (f + 63))
  last_is = fill_at blank 0 (nth_from P f 64) 63 (omega arith) (omega (arith, nth_from_length P f 64)) (omega arith) ∙ ap pos (nth_from_at P f 64 63 (omega arith))

  -- whether a member lies past the 64th
  more_left : f + 64 ≤ total P → any_in_range P (pos (suc (nth P (f + 63)))) (pos (2 ^ 63 - 1)) ≡ ltb (f + 64) (total P)
  unfolding any_in_range rank total
  more_left l =
      let h = nth_has P (f + 63) (omega arith) in
      let m = count_member P (nth P (f + 63)) h.0 in
      let c = h.1 in
      let e : count P (suc (nth P (f + 63))) ≡ f + 64 = omega arith in
      let q : suc (2 ^ 63 - 1) ≡ 2 ^ 63 = omega arith in
      ap₂ ltb e (ap (count P) q)

-- ---- the record

module _ {x : Mem} (w : Follows x) (z : ℤ) where
  abbrev P : Ids
  P = holds x

  abbrev f : ℕ
  f = rank P z

  abbrev left : ℕ
  left = left_from P z

  filled_is : fill_from x (from_zero z) ≡ filled_by blank 0 (nth_from P f left)
  filled_is = fill_from_law w (from_zero z) ∙ ap (filled_by blank 0) (left_is P z)

  -- all of them, or the first 64
  listed_all : left ≤ 64 → first_of P z left true z ≡ listing P z
  unfolding listing
  listed_all l = sym (ap (λ (b : Bool). cond b (first_of P z left true z) (first_of P z 64 false (pos (nth P (f + 63) + 1)))) (le-leb left 64 l))

  listed_first : 64 < left → first_of P z 64 false (pos (nth P (f + 63) + 1)) ≡ listing P z
  unfolding listing
  listed_first l = sym (ap (λ (b : Bool). cond b (first_of P z left true z) (first_of P z 64 false (pos (nth P (f + 63) + 1)))) (lt-leb left 64 l))

  few : left < 64 → record_by x z (filled_by blank 0 (nth_from P f left)) ≡ listing P z
  few l =
      let ids = fill blank 0 (nth_from P f left) in
      ap (record_by x z) (some_filled P f left l)
      ∙ ap (λ (b : Bool). cond b (ended ids left z) (ended_by ids left z (any_by x (suc_ℤ (last_id ids)) (pos (2 ^ 63 - 1))))) (lt-ltb left 64 l)
      ∙ listed_all (omega arith)

  -- the mark, by whether there are more than 64
  mark : (b : Bool) → ltb (f + 64) (total P) ≡ b → 64 ≤ left → ended_by (fill blank 0 (nth_from P f 64)) 64 z (Ok b) ≡ listing P z
  mark true t l =
      let m = ltb-true (f + 64) (total P) t in
      ap (first_of P z 64 false) (ap suc_ℤ (last_is P f) ∙ ap pos (sym (add-one (nth P (f + 63))))) ∙ listed_first (omega arith)
  mark false t l =
      let m = ltb-false (f + 64) (total P) t in
      let e : 64 ≡ left = omega arith in
      ap (λ (n : ℕ). first_of P z n true z) e ∙ listed_all (omega arith)

  many : 64 ≤ left → record_by x z (filled_by blank 0 (nth_from P f left)) ≡ listing P z
  many l =
      ap (record_by x z) (full_filled P f left l)
      ∙ ap (ended_by (fill blank 0 (nth_from P f 64)) 64 z)
      (ap (λ (i : ℤ). any_by x (suc_ℤ i) (pos (2 ^ 63 - 1))) (last_is P f)
      ∙ any_in_range_is w (pos (suc (nth P (f + 63)))) (pos (2 ^ 63 - 1))
      ∙ ap Ok (more_left P f (omega arith)))
      ∙ mark (ltb (f + 64) (total P)) refl l

  record_is : record_by x z (filled_by blank 0 (nth_from P f left)) ≡ listing P z
  record_is = go (ltb left 64) refl
    where
      go : (b : Bool) → ltb left 64 ≡ b → record_by x z (filled_by blank 0 (nth_from P f left)) ≡ listing P z
      go true t = few (ltb-true left 64 t)
      go false t = many (ltb-false left 64 t)

  pub iterate_is : iter_by x z ≡ listing (holds x) z
  unfolding iter_by
  iterate_is =
      ap (λ (b : Bool). cond b (record_by x z (fill_from x (from_zero z))) (refused_listing (number not_laid_out))) (entries_fit w)
      ∙ ap (record_by x z) filled_is
      ∙ record_is

-- Places filled one after another: what is left to write, and when nothing is. And members, one id at a time. Assumes nothing.
use mathlib.Core.Path.{◌≡◌, refl, sym, ap, ap₂, ◌∙◌, subst}
use mathlib.Core.Bool.{Bool, true, false, cond}
use mathlib.Core.List.{List, [], ◌∷◌, ◌++◌}
use Prim.Native.Nat.{ℕ, suc, ◌+◌, ◌≤◌, ◌<◌}
use native.Mathlib.Nat.{add-zero}
use native.Mathlib.Numerals.{add-one}
use native.Mathlib.Omega.{arith}
use lib.Dec.{leb}
use lib.IntN.{ℤ, pos}
use lib.ListN.{length, set, length-set, length-append}
use lib.Seq.{set_out}
use borrow.Author.Tests.{leb-true, leb-false}
use Rattle.sums.specs.Ids.{Ids}
use Rattle.sums.specs.Members.{members_in, fill, fill_to}

-- ---- members

module _ (P : Ids) (a n : ℕ) where
  pub members_yes : P a ≡ true → members_in P a (suc n) ≡ a ∷ members_in P (suc a) n
  unfolding members_in
  members_yes e = ap (λ (b : Bool). cond b (a ∷ members_in P (suc a) n) (members_in P (suc a) n)) e

  pub members_no : P a ≡ false → members_in P a (suc n) ≡ members_in P (suc a) n
  unfolding members_in
  members_no e = ap (λ (b : Bool). cond b (a ∷ members_in P (suc a) n) (members_in P (suc a) n)) e

-- ---- filling

length_fill : (out : List ℤ) (k : ℕ) (ns : List ℕ) → length (fill out k ns) ≡ length out
unfolding fill
length_fill out k [] = refl
length_fill out k (n ∷ ns) = length_fill (set out k (pos n)) (suc k) ns ∙ length-set out k (pos n)

fill_past : (out : List ℤ) (k : ℕ) (ns : List ℕ) → length out ≤ k → fill out k ns ≡ out
unfolding fill
fill_past out k [] l = refl
fill_past out k (n ∷ ns) l = ap (λ (o : List ℤ). fill o (suc k) ns) (set_out out k (pos n) l) ∙ fill_past out (suc k) ns (omega arith)

fill_on : (out : List ℤ) (k : ℕ) (xs ys : List ℕ) → fill out k (xs ++ ys) ≡ fill (fill out k xs) (k + length xs) ys
unfolding fill
fill_on out k [] ys = ap (λ (i : ℕ). fill out i ys) (sym (add-zero k))
fill_on out k (n ∷ ns) ys =
    let e : suc k + length ns ≡ k + suc (length ns) = omega arith in
    fill_on (set out k (pos n)) (suc k) ns ys ∙ ap (λ (j : ℕ). fill (fill (set out k (pos n)) (suc k) ns) j ys) e

-- where the first ones fill all places, nothing more is written
fill_parts : (out : List ℤ) (k : ℕ) (xs ys : List ℕ) → fill out k (xs ++ ys) ≡ fill (fill out k xs) (fill_to out k xs) ys
fill_parts out k xs ys = fill_on out k xs ys ∙ go (leb (k + length xs) (length out)) refl
  where
    go : (b : Bool) → leb (k + length xs) (length out) ≡ b → fill (fill out k xs) (k + length xs) ys ≡ fill (fill out k xs) (fill_to out k xs) ys
    go true e =
        let l = leb-true (k + length xs) (length out) e in
        let m : k + length xs ≡ fill_to out k xs = omega arith in
        ap (λ (j : ℕ). fill (fill out k xs) j ys) m
    go false e =
        let l = leb-false (k + length xs) (length out) e in
        let m = length_fill out k xs in
        fill_past (fill out k xs) (k + length xs) ys (omega arith) ∙ sym (fill_past (fill out k xs) (fill_to out k xs) ys (omega arith))

-- ---- what is left

-- to write ns from place k of out on is what is left of writing all of them from place j of the first list on
pub record Left (first : List ℤ) (j : ℕ) (all : List ℕ) (out : List ℤ) (k : ℕ) (ns : List ℕ) : Type 0 where
  pub same : fill out k ns ≡ fill first j all
  pub end : fill_to out k ns ≡ fill_to first j all
  pub room : k ≤ length out
  pub long : length out ≡ length first

pub left_start : (out : List ℤ) (k : ℕ) (ns : List ℕ) → k ≤ length out → Left out k ns out k ns
left_start out k ns l = record { same = refl; end = refl; room = l; long = refl }

module _ (first : List ℤ) (j : ℕ) (all : List ℕ) (out : List ℤ) (k : ℕ) where
  -- other words for the same numbers
  pub left_same : (ns ms : List ℕ) → Left first j all out k ns → ns ≡ ms → Left first j all out k ms
  left_same ns ms h e = subst (Left first j all out k) e h

  -- one number written
  pub left_put : (n : ℕ) (ns : List ℕ) → Left first j all out k (n ∷ ns) → k < length out → Left first j all (set out k (pos n)) (k + 1) ns
  unfolding fill
  left_put n ns h l =
      let m = length-set out k (pos n) in
      let e = h.end in
      let g = h.long in
      record {
        same = ap (λ (i : ℕ). fill (set out k (pos n)) i ns) (add-one k) ∙ h.same;
        end = omega arith;
        room = omega arith;
        long = omega arith;
      }

  -- several, by another hand
  pub left_then : (xs ys : List ℕ) (next : List ℤ) (i : ℕ) → Left first j all out k (xs ++ ys) → next ≡ fill out k xs → i ≡ fill_to out k xs → Left first j all next i ys
  left_then xs ys next i h p q =
      let m : length next ≡ length out = ap length p ∙ length_fill out k xs in
      let e = h.end in
      let g = h.long in
      let r = h.room in
      let a = length-append xs ys in
      record {
        same = ap₂ (λ (o : List ℤ) (t : ℕ). fill o t ys) p q ∙ sym (fill_parts out k xs ys) ∙ h.same;
        end = omega arith;
        room = omega arith;
        long = omega arith;
      }

  -- no place is left
  pub left_full : (ns : List ℕ) → Left first j all out k ns → length out ≤ k → (out ≡ fill first j all) × (k ≡ fill_to first j all)
  left_full ns h l =
      let e = h.end in
      let r = h.room in
      (sym (fill_past out k ns l) ∙ h.same, omega arith)

  -- no number is left
  pub left_none : Left first j all out k [] → (out ≡ fill first j all) × (k ≡ fill_to first j all)
  unfolding fill
  left_none h =
      let e = h.end in
      let r = h.room in
      (h.same, omega arith)

-- Marks beside lows and highs, set one after the other: the first i are those of the first i lows. Assumes nothing.
use mathlib.Core.Path.{◌≡◌, refl, sym, ap, ap₂, ◌∙◌}
use mathlib.Core.Bool.{Bool, true, false, cond}
use Prim.Native.Nat.{ℕ, zero, suc, ◌+◌, ◌≤◌, ◌<◌, min}
use native.Mathlib.Nat.{not-suc-le-zero, le_of_suc-le-suc}
use native.Mathlib.Numerals.{add-one}
use native.Mathlib.Omega.{arith}
use mathlib.Core.List.{List, [], ◌∷◌, map}
use lib.IntN.{ℤ, pos}
use lib.ListN.{length, get_or, set, take}
use lib.Seq.{take-nil}
use mir.Val.{bool_byte}
use Rattle.document.specs.RangeList.{marks, marks_in}
use Rattle.document.specs.declared.range.Range.{Range}

byte_is : (b : Bool) → bool_byte b ≡ cond b 1 0
byte_is true = refl
byte_is false = refl

-- there is a record i
pub record There (los his : List ℤ) (ms : List ℕ) (i : ℕ) : Type 0 where
  pub low : i < length los
  pub high : i < length his
  pub mark : i < length ms

-- a record's ends, and its mark as a number
abbrev pub low : Range → ℤ
low r = r.low

abbrev pub high : Range → ℤ
high r = r.high

abbrev pub mark_of : Range → ℕ
mark_of r = cond r.mark 1 0

module _ (f : ℤ → ℤ → Bool) where
  pub ends_length : (los his : List ℤ) (ms : List ℕ) → length (marks_in f los his ms) ≡ length ms
  unfolding marks_in
  ends_length [] his ms = refl
  ends_length (lo ∷ los) [] ms = refl
  ends_length (lo ∷ los) (hi ∷ his) [] = refl
  ends_length (lo ∷ los) (hi ∷ his) (m ∷ ms) = ap suc (ends_length los his ms)

  pub ends_none : (los his : List ℤ) (ms : List ℕ) → marks_in f (take 0 los) his ms ≡ ms
  unfolding marks_in
  ends_none los his ms = refl

  steps : (i : ℕ) (los his : List ℤ) (ms : List ℕ) → i < length los → i < length his → i < length ms
      → set (marks_in f (take i los) his ms) i (cond (f (get_or los i (pos 0)) (get_or his i (pos 0))) 1 0) ≡ marks_in f (take (suc i) los) his ms
  unfolding marks_in
  steps i [] his ms a b c = absurd (not-suc-le-zero a)
  steps i (lo ∷ los) [] ms a b c = absurd (not-suc-le-zero b)
  steps i (lo ∷ los) (hi ∷ his) [] a b c = absurd (not-suc-le-zero c)
  steps zero (lo ∷ los) (hi ∷ his) (m ∷ ms) a b c = refl
  steps (suc i) (lo ∷ los) (hi ∷ his) (m ∷ ms) a b c =
      ap (λ (r : List ℕ). cond (f lo hi) 1 0 ∷ r) (steps i los his ms (le_of_suc-le-suc a) (le_of_suc-le-suc b) (le_of_suc-le-suc c))

  -- one more of them, by the code's number
  pub ends_turn : (i : ℕ) (los his : List ℤ) (ms l : List ℕ) (b : Bool) → l ≡ marks_in f (take i los) his ms → There los his ms i → b ≡ f (get_or los i (pos 0)) (get_or his i (pos 0))
      → set l i (bool_byte b) ≡ marks_in f (take (i + 1) los) his ms
  ends_turn i los his ms l b e t q =
      ap₂ (λ (k : List ℕ) (v : ℕ). set k i v) e (ap bool_byte q ∙ byte_is (f (get_or los i (pos 0)) (get_or his i (pos 0))))
      ∙ steps i los his ms t.low t.high t.mark ∙ ap (λ (k : ℕ). marks_in f (take k los) his ms) (sym (add-one i))

  -- past the shortest there is nothing to mark
  pub ends_all : (n : ℕ) (los his : List ℤ) (ms : List ℕ) → min (min (length los) (length his)) (length ms) ≤ n → marks_in f (take n los) his ms ≡ marks_in f los his ms
  unfolding marks_in
  ends_all n [] his ms h = ap (λ (l : List ℤ). marks_in f l his ms) (take-nil n)
  ends_all zero (lo ∷ los) [] ms h = refl
  ends_all (suc n) (lo ∷ los) [] ms h = refl
  ends_all zero (lo ∷ los) (hi ∷ his) [] h = refl
  ends_all (suc n) (lo ∷ los) (hi ∷ his) [] h = refl
  ends_all zero (lo ∷ los) (hi ∷ his) (m ∷ ms) h = absurd (omega arith)
  ends_all (suc n) (lo ∷ los) (hi ∷ his) (m ∷ ms) h = ap (λ (r : List ℕ). cond (f lo hi) 1 0 ∷ r) (ends_all n los his ms (omega arith))

  -- the marks of a list of records are those beside its lows and highs
  pub columns_are : (rs : List Range) → map mark_of (marks f rs) ≡ marks_in f (map low rs) (map high rs) (map mark_of rs)
  unfolding marks_in
  columns_are [] = refl
  columns_are (r ∷ rs) = ap (λ (t : List ℕ). cond (f r.low r.high) 1 0 ∷ t) (columns_are rs)

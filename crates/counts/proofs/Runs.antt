-- The members of the entries one by one. Assumes nothing.
use mathlib.Core.Path.{◌≡◌, refl, sym, ◌∙◌, ap, ap₂}
use mathlib.Core.List.{List}
use mathlib.Core.Bool.{Bool, true, false, cond, not, and-true}
use Prim.Native.Nat.{ℕ, zero, suc, ◌+◌, ◌-◌, ◌*◌, ◌≤◌, ◌<◌}
use native.Mathlib.Omega.{arith}
use lib.Dec.{ltb, eqb}
use lib.ListN.{length, take, drop}
use borrow.Author.Tests.{lt-ltb, ne_eqb}
use Rattle.sums.specs.Sums.{sum_to}
use Rattle.sums.specs.Ids.{count}
use Rattle.sums.specs.Rules.{all_to}
use Rattle.sums.proofs.Sums.{sum_none, sum_split}
use Rattle.sums.proofs.Counts.{count_none, count_split}
use Rattle.sums.proofs.Rules.{all_more}
use Rattle.dense.specs.Bits.{bits_to, any_in}
use Rattle.dense.proofs.Counts.{bits_zero, bits_le}
use Rattle.layout.specs.Mem.{Mem}
use Rattle.layout.specs.Short.{spot_of}
use Rattle.document.specs.Refusals.{not_laid_out}
use Rattle.document.specs.Results.{Amount, Truth}
use Rattle.document.specs.declared.refusal.Refusal.{Refusal}
use Rattle.calls.specs.Reading.{spot_by}
use Rattle.calls.specs.Counts.{entries_ok, word_by, is_good, size_in, good_at, size_by, used_at}
use Rattle.entries.proofs.Runs.{run}
use Rattle.entries.proofs.Parts.{PageLent, part_refused, page_lent}
use Rattle.layout.proofs.Lent.{span}
use Rattle.calls.proofs.Spots.{spot_row}
use Rattle.layout.specs.Found.{Spotted}
use Rattle.layout.specs.declared.find.Spot.TheVariants.{Nowhere, Page, Row}
use Rattle.std.specs.Prelude.{Result, Ok, Err}

zero_not : (k : ℕ) → not (ltb 0 k) ≡ eqb k 0
zero_not zero = refl
zero_not (suc k) = ap not (lt-ltb 0 (suc k) (omega arith)) ∙ sym (ne_eqb (suc k) 0 (λ (e : suc k ≡ 0). omega arith))

-- no bit up to the last
none_bit : (ws : List ℕ) (n : ℕ) → 1 ≤ n → not (any_in ws 0 (64 * n - 1)) ≡ eqb (bits_to ws (64 * n)) 0
unfolding any_in
none_bit ws n h =
    let e : 64 * n - 1 + 1 ≡ 64 * n = omega arith in
    ap not (ap₂ ltb (bits_zero ws) (ap (bits_to ws) e)) ∙ zero_not (bits_to ws (64 * n))

-- a page, where the entries lie in the table
pub page_here : (x : Mem) (w a n : ℕ) → entries_ok x.table ≡ true → Ok (Page a n) ≡ spot_by x w → PageLent x a n
page_here x w a n ok f = let r = run x.table ok in page_lent x w a n r.low r.high f

module _ (x : Mem) (e : ℕ) where
  -- what the entry answers, with f of its members
  module _ {A : Type 0} (f : ℕ → A) where
    pub part_is : (q : Spotted) → q ≡ spot_by x (word_by x e)
        → ◌≡◌ {A = Result A Refusal} (cond (is_good q) (Ok (f (size_in x q))) (Err not_laid_out)) (cond (good_at x e) (Ok (f (size_by x e))) (Err not_laid_out))
    unfolding good_at size_by
    part_is q g = ap (λ (p : Spotted). cond {A = Result A Refusal} (is_good p) (Ok (f (size_in x p))) (Err not_laid_out)) g

    pub part_err : (n : Refusal) → Err n ≡ spot_by x (word_by x e) → ◌≡◌ {A = Result A Refusal} (Err n) (cond (good_at x e) (Ok (f (size_by x e))) (Err not_laid_out))
    part_err n g = ap Err (part_refused x (word_by x e) n g) ∙ part_is (Err n) g

  module _ (a n : ℕ) (i : PageLent x a n) (f : Ok (Page a n) ≡ spot_by x (word_by x e)) where
    pub page_size : (k : ℕ) → k ≡ bits_to (take (a + n - a) (drop a x.pages)) (64 * length (take (a + n - a) (drop a x.pages)))
        → ◌≡◌ {A = Amount} (Ok k) (cond (good_at x e) (Ok (size_by x e)) (Err not_laid_out))
    page_size k g =
        ap Ok (g ∙ ap₂ (λ (i j : ℕ). bits_to (take i (drop a x.pages)) (64 * j)) (span a n) i.words)
        ∙ part_is (λ k. k) (Ok (Page a n)) f

    pub page_none : (b : Bool) → b ≡ any_in (take (a + n - a) (drop a x.pages)) 0 (64 * n - 1)
        → ◌≡◌ {A = Truth} (Ok (not b)) (cond (good_at x e) (Ok (eqb (size_by x e) 0)) (Err not_laid_out))
    page_none b g =
        ap Ok (ap not (g ∙ ap (λ (i : ℕ). any_in (take i (drop a x.pages)) 0 (64 * n - 1)) (span a n)) ∙ none_bit (take n (drop a x.pages)) n (omega (arith, i.some)))
        ∙ part_is (λ k. eqb k 0) (Ok (Page a n)) f

  -- a chunk has at most 2^25 members
  pub size_most : entries_ok x.table ≡ true → size_by x e ≤ 33554432
  unfolding size_by
  size_most ok = go (spot_by x (word_by x e)) refl
    where
      go : (q : Spotted) → q ≡ spot_by x (word_by x e) → size_in x q ≤ 33554432
      go (Ok Nowhere) f = omega arith
      go (Ok (Row a n l)) f =
          let i = spot_row x (word_by x e) a n l (sym f) in
          omega (arith, i.short, i.small)
      go (Ok (Page a n)) f = omega (arith, page_here x (word_by x e) a n ok f, bits_le (take n (drop a x.pages)) (64 * n))
      go (Err n) f = omega arith

-- ---- entries from a to r - 1 that are absent

all_add : (f : ℕ → Bool) (a k : ℕ) → ((j : ℕ) → j < k → f (a + j) ≡ true) → all_to f (a + k) ≡ all_to f a
all_add f a zero h = let z : a + 0 ≡ a = omega arith in ap (all_to f) z
all_add f a (suc k) h =
    let z : a + suc k ≡ a + k + 1 = omega arith in
    ap (all_to f) z ∙ (sym (all_more f (a + k) (all_to f (a + k)) true refl (sym (h k (omega arith)))) ∙ (and-true (all_to f (a + k)) ∙ all_add f a k (λ (j : ℕ) (m : j < k). h j (omega arith))))

module _ (x : Mem) where
  module _ (e : ℕ) (z : word_by x e ≡ 0) where
    absent_good : good_at x e ≡ true
    unfolding good_at spot_of
    absent_good = ap (λ (w : ℕ). is_good (spot_by x w)) z

    absent_size : size_by x e ≡ 0
    unfolding size_by spot_of
    absent_size = ap (λ (w : ℕ). size_in x (spot_by x w)) z

    absent_used : used_at x e ≡ false
    unfolding used_at
    absent_used = ap (λ (w : ℕ). not (eqb w 0)) z

  module _ (a r : ℕ) (l : a ≤ r) (z : (i : ℕ) → a ≤ i → i < r → word_by x i ≡ 0) where
    back : r ≡ a + (r - a)
    back = omega arith

    word_at : (j : ℕ) → j < r - a → word_by x (a + j) ≡ 0
    word_at j m = z (a + j) (omega arith) (omega arith)

    pub good_past : all_to (good_at x) a ≡ all_to (good_at x) r
    good_past = sym (ap (all_to (good_at x)) back ∙ all_add (good_at x) a (r - a) (λ (j : ℕ) (m : j < r - a). absent_good (a + j) (word_at j m)))

    pub none_past : all_to (λ (e : ℕ). eqb (size_by x e) 0) a ≡ all_to (λ (e : ℕ). eqb (size_by x e) 0) r
    none_past =
        sym (ap (all_to (λ (e : ℕ). eqb (size_by x e) 0)) back
        ∙ all_add (λ (e : ℕ). eqb (size_by x e) 0) a (r - a) (λ (j : ℕ) (m : j < r - a). ap (λ (k : ℕ). eqb k 0) (absent_size (a + j) (word_at j m))))

    pub size_past : sum_to (size_by x) a ≡ sum_to (size_by x) r
    size_past =
        let n = sum_none (λ (j : ℕ). size_by x (a + j)) (r - a) (λ (j : ℕ) (m : j < r - a). absent_size (a + j) (word_at j m)) in
        omega (arith, ap (sum_to (size_by x)) back, sum_split (size_by x) a (r - a))

    pub used_past : count (used_at x) a ≡ count (used_at x) r
    used_past =
        let n = count_none (λ (j : ℕ). used_at x (a + j)) (r - a) (λ (j : ℕ) (m : j < r - a). absent_used (a + j) (word_at j m)) in
        omega (arith, ap (count (used_at x)) back, count_split (used_at x) a (r - a))

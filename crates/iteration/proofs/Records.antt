-- The record of what was filled, way by way. Assumes nothing.
use mathlib.Core.Path.{◌≡◌, sym, ◌∙◌, ap, ap₂}
use mathlib.Core.Bool.{Bool, true, false, cond}
use mathlib.Core.List.{List}
use Prim.Native.Nat.{ℕ, ◌-◌, ◌^◌, ◌≤◌, ◌<◌}
use lib.IntN.{ℤ, pos, suc_ℤ, ◌+ℤ◌}
use lib.Signed.{mag}
use mir.Syntax.{w64}
use mir.Val.{SFits, of_z, to_z}
use borrow.Author.Tests.{lt-ltb, le-ltb}
use Rattle.numbers.proofs.Signs.{hop}
use Rattle.document.specs.Iteration.{refused_listing}
use Rattle.document.specs.declared.answer.Listing.{Listing}
use Rattle.layout.specs.Mem.{Mem}
use Rattle.calls.specs.Counts.{entries_ok}
use Rattle.calls.specs.Range.{any_by}
use Rattle.calls.specs.Iteration.{Filled, to, bad, fill_from, last_id, ended, ended_by, record_by, from_zero, iter_by}
use Rattle.iteration.proofs.Nexts.{largest, next_is, some_past}
use Rattle.document.specs.Refusals.{not_laid_out, number}
use Rattle.document.specs.Results.{Truth}
use Rattle.document.specs.declared.refusal.Refusal.{Refusal}
use Rattle.std.specs.Prelude.{Ok, ℕ}

-- ---- the record of k ids

module _ (x : Mem) (ids : List ℤ) (k : ℕ) (start : ℤ) (s : SFits w64 start) where
  abbrev past : Truth
  past = any_by x (suc_ℤ (last_id ids)) (pos (2 ^ 63 - 1))

  by_mark : Bool → Listing
  by_mark b = cond b (ended ids k start) (ended_by ids k start past)

  ends : ended ids k (to_z w64 (of_z w64 start)) ≡ ended ids k start
  ends = hop (ended ids k) start s

  pub record_short : k < 64 → ended ids k (to_z w64 (of_z w64 start)) ≡ record_by x start (to ids k)
  unfolding by_mark
  record_short l = ends ∙ ap by_mark (sym (lt-ltb k 64 l))

  module _ (l : 64 ≤ k) (f : mag (last_id ids) < 2 ^ 63) (r : Truth) (e : r ≡ any_by x (suc_ℤ (to_z w64 (of_z w64 (last_id ids)))) (pos (2 ^ 63 - 1))) where
    asked : r ≡ past
    asked = e ∙ hop (λ (z : ℤ). any_by x (suc_ℤ z) (pos (2 ^ 63 - 1))) (last_id ids) (record { sfits = f })

    full : (q : Truth) → r ≡ q → ended_by ids k start q ≡ record_by x start (to ids k)
    unfolding by_mark
    full q g = ap (ended_by ids k start) (sym g ∙ asked) ∙ ap by_mark (sym (le-ltb k 64 l))

    module _ (ok : entries_ok x.table ≡ true) (g : r ≡ Ok true) where
      pub not_largest : of_z w64 (last_id ids) ≡ largest → ⊥
      not_largest = some_past x ok (last_id ids) (record { sfits = f }) r asked g

      pub record_goes : (b : Bool) → b ≡ false → ◌≡◌ {A = Listing} (record { ids = ids; count = k; end = b; next = to_z w64 (of_z w64 (to_z w64 (of_z w64 (last_id ids)) +ℤ pos 1)); refusal = 0 }) (record_by x start (to ids k))
      record_goes b h =
          ap₂ (λ (c : Bool) (z : ℤ). record { ids = ids; count = k; end = c; next = z; refusal = 0 }) h (next_is (last_id ids) (record { sfits = f }) not_largest)
          ∙ full (Ok true) g

-- ---- all of it

module _ (x : Mem) (start : ℤ) (s : SFits w64 start) where
  by_test : Bool → Listing
  by_test b = cond b (record_by x start (fill_from x (from_zero start))) (refused_listing (number not_laid_out))

  pub iter_refused : entries_ok x.table ≡ false → refused_listing (number not_laid_out) ≡ iter_by x start
  unfolding iter_by by_test
  iter_refused h = ap by_test (sym h)

  module _ (ok : entries_ok x.table ≡ true) (lo : ℕ) (el : lo ≡ from_zero (to_z w64 (of_z w64 start))) where
    iter_is : (f : Filled) → f ≡ fill_from x lo → record_by x start f ≡ iter_by x start
    unfolding iter_by by_test
    iter_is f e = ap (record_by x start) (e ∙ ap (fill_from x) (el ∙ hop from_zero start s)) ∙ ap by_test (sym ok)

    pub iter_bad : (n : Refusal) → n ≡ not_laid_out → bad ≡ fill_from x lo → refused_listing (number n) ≡ iter_by x start
    iter_bad n g e = ap (λ (m : Refusal). refused_listing (number m)) g ∙ iter_is bad e

    pub iter_to : (ids : List ℤ) (k : ℕ) (r : Listing) → to ids k ≡ fill_from x lo → r ≡ record_by x (to_z w64 (of_z w64 start)) (to ids k) → r ≡ iter_by x start
    iter_to ids k r e f = f ∙ (hop (λ (z : ℤ). record_by x z (to ids k)) start s ∙ iter_is (to ids k) e)

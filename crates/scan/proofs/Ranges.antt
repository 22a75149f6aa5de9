-- The range test, way by way: an entry, a turn of the run, the two ends. Assumes nothing.
use mathlib.Core.Path.{◌≡◌, refl, sym, ◌∙◌, ap, ap₂}
use mathlib.Core.Bool.{Bool, true, false, cond}
use Prim.Native.Nat.{ℕ, suc, ◌+◌, ◌-◌, ◌/◌, ◌^◌, ◌≤◌, ◌<◌}
use native.Mathlib.Numerals.{add-one}
use native.Mathlib.Omega.{arith}
use lib.IntN.{ℤ, pos, negsuc}
use lib.ListN.{get_or}
use borrow.Author.Tests.{lt-ltb, le-ltb, le-leb, lt-leb}
use Rattle.document.specs.Sizes.{top}
use Rattle.layout.specs.Mem.{Mem}
use Rattle.layout.specs.Sizes.{head}
use Rattle.layout.specs.Short.{spot_of}
use Rattle.calls.specs.Reading.{spot_by}
use Rattle.calls.specs.Counts.{entries_ok, entries_of, word_by}
use Rattle.calls.specs.Range.{chunk_by, entry_from, clip_low, clip_high, any_at, any_entry, or_next, any_run, any_from, any_of, any_by}
use Rattle.calls.specs.Iteration.{from_zero}
use Rattle.document.specs.Refusals.{not_laid_out}
use Rattle.document.specs.Results.{Truth}
use Rattle.std.specs.Prelude.{Err, Ok}

-- ---- entry e

module _ (x : Mem) (lo hi e w : ℕ) (ew : w ≡ word_by x e) where
  at_word : ℕ → Truth
  at_word v = any_at x (clip_low (top (head x)) lo (chunk_by x e)) (clip_high (top (head x)) hi (chunk_by x e)) (spot_by x v)

  pub entry_absent : w ≡ 0 → Ok false ≡ any_entry x lo hi e
  unfolding any_entry at_word spot_of
  entry_absent z = ap at_word (sym z ∙ ew)

  pub entry_is : (s c a b : ℕ) → s ≡ get_or x.table 0 0 → c ≡ chunk_by x e → a ≡ clip_low (2 ^ s) lo c → b ≡ clip_high (2 ^ s) hi c → any_at x a b (spot_by x w) ≡ any_entry x lo hi e
  unfolding any_entry at_word
  entry_is s c a b es ec ea eb =
      ap₂ (λ (i j : ℕ). any_at x i j (spot_by x w))
      (ea ∙ ap₂ (λ (k d : ℕ). clip_low (2 ^ k) lo d) es ec)
      (eb ∙ ap₂ (λ (k d : ℕ). clip_high (2 ^ k) hi d) es ec)
      ∙ ap at_word ew

-- ---- a turn

module _ (x : Mem) (lo hi i n : ℕ) where
  pub run_end : n ≤ i → Ok false ≡ any_run x lo hi (n - i) i
  unfolding any_run
  run_end l = let e : 0 ≡ n - i = omega arith in ap (λ (k : ℕ). any_run x lo hi k i) e

  module _ (l : i < n) (c last : ℕ) (ec : c ≡ chunk_by x i) (el : last ≡ hi / top (head x)) where
    turned : Bool → Truth → Truth
    turned b r = cond b (or_next r (any_run x lo hi (n - suc i) (suc i))) (Ok false)

    opened : any_run x lo hi (suc (n - suc i)) i ≡ any_run x lo hi (n - i) i
    opened = let e : suc (n - suc i) ≡ n - i = omega arith in ap (λ (k : ℕ). any_run x lo hi k i) e

    pub run_past : last < c → Ok false ≡ any_run x lo hi (n - i) i
    unfolding any_run turned
    run_past g =
        ap (λ (b : Bool). turned b (any_entry x lo hi i)) (sym (lt-leb (chunk_by x i) (hi / top (head x)) (omega (arith, ec, el)))) ∙ opened

    module _ (g : c ≤ last) (r : Truth) (er : r ≡ any_entry x lo hi i) where
      pub run_turn : or_next r (any_run x lo hi (n - (i + 1)) (i + 1)) ≡ any_run x lo hi (n - i) i
      unfolding any_run turned
      run_turn =
          ap (λ (k : ℕ). or_next r (any_run x lo hi (n - k) k)) (add-one i)
          ∙ (ap₂ turned (sym (le-leb (chunk_by x i) (hi / top (head x)) (omega (arith, ec, el)))) er ∙ opened)

-- ---- all entries from the low end's chunk on

pub from_is : (x : Mem) (lo hi e n : ℕ) → e ≡ entry_from x (lo / top (head x)) → n ≡ entries_of x → any_run x lo hi (n - e) e ≡ any_from x lo hi
unfolding any_from
from_is x lo hi e n ee en = ap₂ (λ (k i : ℕ). any_run x lo hi (k - i) i) en ee

-- ---- the two ends

module _ (x : Mem) where
  pub any_refused : (lo hi : ℤ) → entries_ok x.table ≡ false → Err not_laid_out ≡ any_by x lo hi
  unfolding any_by
  any_refused lo hi h = ap (λ (b : Bool). cond b (any_of x lo hi) (Err not_laid_out)) (sym h)

  module _ (ok : entries_ok x.table ≡ true) where
    any_is : (lo hi : ℤ) → any_of x lo hi ≡ any_by x lo hi
    unfolding any_by
    any_is lo hi = ap (λ (b : Bool). cond b (any_of x lo hi) (Err not_laid_out)) (sym ok)

    none_of : (lo : ℤ) (k : ℕ) → Ok false ≡ any_of x lo (negsuc k)
    none_of (pos a) k = refl
    none_of (negsuc a) k = refl

    pub any_below : (lo : ℤ) (k : ℕ) → Ok false ≡ any_by x lo (negsuc k)
    any_below lo k = none_of lo k ∙ any_is lo (negsuc k)

    empty_of : (z : ℤ) (lo hi : ℕ) → lo ≡ from_zero z → hi < lo → Ok false ≡ any_of x z (pos hi)
    empty_of (pos a) lo hi e l = ap (λ (b : Bool). cond b (Ok false) (any_from x a hi)) (sym (lt-ltb hi a (omega (arith, e))))
    empty_of (negsuc a) lo hi e l = absurd (omega (arith, e))

    some_of : (z : ℤ) (lo hi : ℕ) → lo ≡ from_zero z → lo ≤ hi → any_from x lo hi ≡ any_of x z (pos hi)
    some_of (pos a) lo hi e l =
        ap (λ (k : ℕ). any_from x k hi) e ∙ ap (λ (b : Bool). cond b (Ok false) (any_from x a hi)) (sym (le-ltb hi a (omega (arith, e))))
    some_of (negsuc a) lo hi e l = ap (λ (k : ℕ). any_from x k hi) e

    module _ (z : ℤ) (lo hi : ℕ) (e : lo ≡ from_zero z) where
      pub any_empty : hi < lo → Ok false ≡ any_by x z (pos hi)
      any_empty l = empty_of z lo hi e l ∙ any_is z (pos hi)

      pub any_some : lo ≤ hi → any_from x lo hi ≡ any_by x z (pos hi)
      any_some l = some_of z lo hi e l ∙ any_is z (pos hi)

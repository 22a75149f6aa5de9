-- Filling a record, way by way: a chunk, an entry, a turn of the run. Assumes nothing.
use mathlib.Core.Path.{◌≡◌, refl, sym, ◌∙◌, ap, ap₂, subst}
use mathlib.Core.Bool.{Bool, true, cond}
use mathlib.Core.List.{List}
use Prim.Native.Nat.{ℕ, zero, suc, ◌+◌, ◌-◌, ◌*◌, ◌/◌, ◌^◌, ◌≤◌, ◌<◌}
use native.Mathlib.Numerals.{add-one}
use native.Mathlib.Omega.{arith}
use lib.IntN.{ℤ}
use lib.ListN.{length, get_or}
use lib.Pow.{pow_pos}
use borrow.Author.Tests.{lt-ltb, le-ltb}
use Rattle.numbers.proofs.Powers.{pow_drop}
use Rattle.numbers.proofs.Slots.{slot_within}
use Rattle.document.specs.Sizes.{top, last_chunk}
use Rattle.document.specs.Iteration.{blank}
use Rattle.layout.specs.Mem.{Mem}
use Rattle.layout.specs.Sizes.{head}
use Rattle.layout.specs.Short.{spot_of}
use Rattle.calls.specs.Reading.{spot_by}
use Rattle.calls.specs.Counts.{entries_ok, entries_of, word_by}
use Rattle.calls.specs.Range.{chunk_by, entry_from, clip_low}
use Rattle.calls.specs.Iteration.{Filled, to, bad, filled_at, fill_entry, and_next, fill_run, fill_from}
use Rattle.entries.proofs.Runs.{run}
use Rattle.std.specs.Prelude.{ℕ}

-- what the leaves ask: ids that fit
pub row_fits : (b : ℕ) {s t : ℕ} → s ≡ t → b + 2 ^ t ≤ 2 ^ 63 → b + 2 ^ s ≤ 2 ^ 63
row_fits b e h = subst (λ (k : ℕ). b + 2 ^ k ≤ 2 ^ 63) (sym e) h

-- ---- the ids of a chunk are below 2^63

module _ (t : List ℕ) (s c : ℕ) (ok : entries_ok t ≡ true) (e : s ≡ get_or t 0 0) (l : c < 2 ^ (63 - get_or t 0 0)) where
  last_within : c * 2 ^ get_or t 0 0 + 2 ^ get_or t 0 0 ≤ 2 ^ 63
  last_within = rw (pow_drop (get_or t 0 0) 63 (omega (arith, (run t ok).high))) at (slot_within (2 ^ get_or t 0 0) c (2 ^ (63 - get_or t 0 0)) l)

  pub chunk_within : (b : ℕ) → b ≡ c * 2 ^ s → b + 2 ^ get_or t 0 0 ≤ 2 ^ 63
  chunk_within b f = let g : b ≡ c * 2 ^ get_or t 0 0 = f ∙ ap (λ (k : ℕ). c * 2 ^ k) e in omega (arith, last_within)

  pub first_below : c * 2 ^ s < 2 ^ 64
  first_below =
      let g : c * 2 ^ s ≡ c * 2 ^ get_or t 0 0 = ap (λ (k : ℕ). c * 2 ^ k) e in
      omega (arith, last_within, pow_pos (get_or t 0 0))

-- ---- entry e

module _ (x : Mem) (lo e : ℕ) (ids : List ℤ) (k c s : ℕ) (ec : c ≡ chunk_by x e) (es : s ≡ get_or x.table 0 0) where
  by_word : Bool → ℕ → Filled
  by_word y w = cond y (filled_at x (chunk_by x e * top (head x)) (clip_low (top (head x)) lo (chunk_by x e)) ids k (spot_by x w)) bad

  module _ (u : ℕ) (eu : u ≡ 2 ^ (63 - s)) where
    last_is : u ≡ last_chunk (head x)
    last_is = eu ∙ ap (λ (j : ℕ). 2 ^ (63 - j)) es

    pub entry_bad : u ≤ c → bad ≡ fill_entry x lo e ids k
    unfolding fill_entry by_word
    entry_bad l = ap (λ (y : Bool). by_word y (word_by x e)) (sym (le-ltb (chunk_by x e) (last_chunk (head x)) (omega (arith, ec, last_is))))

    module _ (l : c < u) (w : ℕ) (ew : w ≡ word_by x e) where
      pub entry_chunk : c < last_chunk (head x)
      entry_chunk = omega (arith, last_is)

      by_entry : by_word true w ≡ fill_entry x lo e ids k
      unfolding fill_entry by_word
      by_entry = ap₂ by_word (sym (lt-ltb (chunk_by x e) (last_chunk (head x)) (omega (arith, ec, last_is)))) ew

      pub entry_none : w ≡ 0 → to ids k ≡ fill_entry x lo e ids k
      unfolding by_word spot_of
      entry_none z = ap (by_word true) (sym z) ∙ by_entry

      pub entry_some : filled_at x (c * top (head x)) (clip_low (top (head x)) lo c) ids k (spot_by x w) ≡ fill_entry x lo e ids k
      unfolding by_word
      entry_some = ap (λ (d : ℕ). filled_at x (d * top (head x)) (clip_low (top (head x)) lo d) ids k (spot_by x w)) ec ∙ by_entry

-- ---- a turn

module _ (x : Mem) (lo : ℕ) where
  full : (n i : ℕ) (ids : List ℤ) (k : ℕ) → 64 ≤ k → to ids k ≡ fill_run x lo n i ids k
  unfolding fill_run
  full zero i ids k h = refl
  full (suc n) i ids k h =
      ap (λ (b : Bool). cond b (and_next (fill_entry x lo i ids k) (fill_run x lo n (suc i))) (to ids k)) (sym (le-ltb k 64 h))

  module _ (i n : ℕ) (ids : List ℤ) (k : ℕ) where
    pub run_full : 64 ≤ k → to ids k ≡ fill_run x lo (n - i) i ids k
    run_full h = full (n - i) i ids k h

    pub run_end : n ≤ i → to ids k ≡ fill_run x lo (n - i) i ids k
    unfolding fill_run
    run_end l = let e : 0 ≡ n - i = omega arith in ap (λ (j : ℕ). fill_run x lo j i ids k) e

    module _ (l : i < n) (h : k < 64) where
      turned : Bool → Filled → Filled
      turned b r = cond b (and_next r (fill_run x lo (n - suc i) (suc i))) (to ids k)

      opened : (r : Filled) → r ≡ fill_entry x lo i ids k → and_next r (fill_run x lo (n - suc i) (suc i)) ≡ fill_run x lo (n - i) i ids k
      unfolding fill_run turned
      opened r f =
          let e : suc (n - suc i) ≡ n - i = omega arith in
          ap₂ turned (sym (lt-ltb k 64 h)) f ∙ ap (λ (j : ℕ). fill_run x lo j i ids k) e

      pub run_bad : bad ≡ fill_entry x lo i ids k → bad ≡ fill_run x lo (n - i) i ids k
      run_bad f = opened bad f

      pub run_next : (out : List ℤ) (j : ℕ) → to out j ≡ fill_entry x lo i ids k → fill_run x lo (n - (i + 1)) (i + 1) out j ≡ fill_run x lo (n - i) i ids k
      run_next out j f = ap (λ (m : ℕ). fill_run x lo (n - m) m out j) (add-one i) ∙ opened (to out j) f

-- ---- all entries from the start's chunk on

pub blank_long : (ids : List ℤ) → ids ≡ blank → 64 ≤ length ids
blank_long ids e = let n : length ids ≡ 64 = ap length e in omega arith

pub from_is : (x : Mem) (lo e n : ℕ) (ids : List ℤ) → e ≡ entry_from x (lo / top (head x)) → n ≡ entries_of x → ids ≡ blank → fill_run x lo (n - e) e ids 0 ≡ fill_from x lo
unfolding fill_from
from_is x lo e n ids ee en ei =
    ap₂ (λ (j i : ℕ). fill_run x lo (j - i) i ids 0) en ee
    ∙ ap (λ (l : List ℤ). fill_run x lo (entries_of x - entry_from x (lo / top (head x))) (entry_from x (lo / top (head x))) l 0) ei

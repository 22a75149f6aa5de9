-- No range test of a set that passed the walk is refused: its entries lie in the table and every part in its pool. Assumes nothing.
use mathlib.Core.Path.{◌≡◌, refl, sym, ap, ap₂, subst, ◌∙◌, fun_ext}
use mathlib.Core.Bool.{Bool, true, false, cond, ◌&&◌}
use Prim.Native.Nat.{ℕ, zero, suc, ◌+◌, ◌-◌, ◌/◌, ◌≤◌, ◌<◌}
use native.Mathlib.Omega.{arith}
use lib.IntN.{ℤ, pos, negsuc}
use lib.Dec.{leb, ltb}
use Rattle.document.specs.Sizes.{top}
use Rattle.document.specs.Refusals.{not_laid_out}
use Rattle.document.specs.RangeList.{hits}
use Rattle.layout.specs.Mem.{Mem}
use Rattle.layout.specs.Sizes.{head}
use Rattle.layout.specs.Entries.{place_at}
use Rattle.layout.specs.Short.{spot_on, spot_of}
use Rattle.layout.specs.Meaning.{state_of}
use Rattle.layout.specs.Follows.{Follows}
use Rattle.layout.specs.Tests.{Walked, walked}
use Rattle.layout.specs.declared.place.Place.{Place}
use Rattle.layout.specs.declared.place.Place.TheVariants.{Absent, Sparse, Dense}
use Rattle.layout.proofs.Tests.{walked_of}
use Rattle.layout_laws.proofs.Short.{entries_inside, spot_inside}
use Rattle.calls.specs.Reading.{spot_by}
use Rattle.calls.specs.Counts.{entries_ok, entries_of, word_by}
use Rattle.calls.specs.Range.{chunk_by, entry_from, clip_low, clip_high, any_at, any_entry, or_next, any_run, any_from, any_of, any_by}
use Rattle.calls.proofs.Readings.{shift_ok_law}
use Rattle.calls.proofs.Ranges.{any_in_range_is}
use Rattle.range_list.specs.Marks.{is_yes, hit_by}
use Rattle.document.specs.Results.{Truth}
use Rattle.layout.specs.Found.{Spotted}
use Rattle.std.specs.Prelude.{Err, Ok}

-- a yes or no
abbrev Told : Truth → Type 0
Told t = t ≡ Ok (is_yes t)

or_told : (t r : Truth) → Told t → Told r → Told (or_next t r)
or_told (Ok true) r s n = refl
or_told (Ok false) r s n = n
or_told (Err c) r s n = s

if_told : (b : Bool) (t r : Truth) → Told t → Told r → Told (cond b t r)
if_told true t r s n = s
if_told false t r s n = n

at_told : (x : Mem) (a b : ℕ) (p : Place) → Told (any_at x a b (spot_on (head x) p))
at_told x a b Absent = refl
at_told x a b (Sparse r l) = refl
at_told x a b (Dense p) = refl

module _ {x : Mem} (w : Walked x (head x)) where
  entries_ok_law : entries_ok x.table ≡ true
  entries_ok_law = ap₂ ◌&&◌ (shift_ok_law x w.sizes) (entries_inside x w.sizes w.room w.over_fits)

  entry_spot : (e : ℕ) → e < entries_of x → spot_by x (word_by x e) ≡ spot_on (head x) (place_at (head x) x.table e)
  unfolding spot_of
  entry_spot e l = spot_inside x (head x) w.sizes w.room (chunk_by x e) (place_at (head x) x.table e) (w.places e l)

  module _ (lo hi : ℕ) where
    entry_told : (e : ℕ) → e < entries_of x → Told (any_entry x lo hi e)
    unfolding any_entry
    entry_told e l =
        let a = clip_low (top (head x)) lo (chunk_by x e) in
        let b = clip_high (top (head x)) hi (chunk_by x e) in
        ap (any_at x a b) (entry_spot e l) ∙ at_told x a b (place_at (head x) x.table e)
        ∙ ap (λ (q : Spotted). Ok (is_yes (any_at x a b q))) (sym (entry_spot e l))

    run_told : (n e : ℕ) → ((i : ℕ) → e ≤ i → i < e + n → i < entries_of x) → Told (any_run x lo hi n e)
    unfolding any_run
    run_told zero e f = refl
    run_told (suc n) e f =
        if_told (leb (chunk_by x e) (hi / top (head x))) (or_next (any_entry x lo hi e) (any_run x lo hi n (suc e))) (Ok false)
        (or_told (any_entry x lo hi e) (any_run x lo hi n (suc e)) (entry_told e (f e (omega arith) (omega arith))) (run_told n (suc e) (λ i a b. f i (omega arith) (omega arith))))
        refl

    from_told : Told (any_from x lo hi)
    unfolding any_from
    from_told = let k = entry_from x (lo / top (head x)) in run_told (entries_of x - k) k (λ i a b. omega arith)

  of_told : (lo hi : ℤ) → Told (any_of x lo hi)
  of_told (pos a) (pos b) = if_told (ltb b a) (Ok false) (any_from x a b) refl (from_told a b)
  of_told (negsuc a) (pos b) = from_told 0 b
  of_told (pos a) (negsuc b) = refl
  of_told (negsuc a) (negsuc b) = refl

  any_of_law : (lo hi : ℤ) → any_by x lo hi ≡ any_of x lo hi
  unfolding any_by
  any_of_law lo hi = ap (λ (b : Bool). cond b (any_of x lo hi) (Err not_laid_out)) entries_ok_law

-- the yes or no that `any_in_range` answers
pub any_told : (x : Mem) → walked x ≡ true → (lo hi : ℤ) → any_by x lo hi ≡ Ok (hit_by x lo hi)
any_told x e lo hi = let w = (walked_of x).sound e in subst Told (sym (any_of_law w lo hi)) (of_told w lo hi)

-- which is the plain set's, where memory follows the layout
pub hits_are : {x : Mem} → Follows x → hit_by x ≡ hits (state_of x)
hits_are {x} w = fun_ext (λ lo. fun_ext (λ hi. ap is_yes (any_in_range_is w lo hi)))

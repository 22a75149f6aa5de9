-- Counts of members and of chunks on memory that follows the layout: those of the plain set and of the map, and never a refusal. Assumes nothing.
use mathlib.Core.Path.{◌≡◌, refl, sym, ap, ap₂, ◌∙◌}
use mathlib.Core.Bool.{Bool, true, cond, not, ◌&&◌}
use Prim.Native.Nat.{ℕ, ◌*◌, ◌<◌}
use native.Mathlib.Omega.{arith}
use lib.Dec.{eqb}
use Rattle.sums.specs.Sums.{sum_to}
use Rattle.sums.specs.Ids.{count, total}
use Rattle.sums.specs.Rules.{all_to}
use Rattle.sums.proofs.Sums.{sum_ext, sum_none, sum_part}
use Rattle.sums.proofs.Rules.{all_of, eqb_of, same_of, same_test}
use Rattle.dense.specs.Bits.{bits_to}
use Rattle.layout.specs.Mem.{Mem}
use Rattle.document.specs.Sizes.{InRange, top}
use Rattle.layout.specs.Sizes.{wide, head}
use Rattle.layout.specs.Places.{page_part}
use Rattle.layout.specs.Entries.{chunk_at, place_at}
use Rattle.layout.specs.Short.{spot_on, spot_of}
use Rattle.layout.specs.Meaning.{holds, state_of}
use Rattle.document.specs.Answers.{chunks_in}
use Rattle.layout.specs.Follows.{size_of, members_at, Follows}
use Rattle.document.specs.declared.sizes.Sizes.{Sizes}
use Rattle.layout.specs.declared.place.Place.{Place}
use Rattle.layout.specs.declared.place.Place.TheVariants.{Absent, Sparse, Dense}
use Rattle.layout_laws.proofs.Entries.{laid_ordered}
use Rattle.layout_laws.proofs.Sizes.{wide_top}
use Rattle.layout_laws.proofs.Short.{spot_inside, entries_inside}
use Rattle.layout_laws.proofs.Members.{count_total}
use Rattle.layout_laws.proofs.ChunkCounts.{chunks_entries}
use Rattle.calls.specs.Reading.{spot_by}
use Rattle.calls.specs.Counts.{entries_ok, entries_of, word_by, is_good, size_in, good_at, size_by, used_at, parts_ok, len_by, is_empty_by, has_any_by, chunks_by}
use Rattle.calls.proofs.Readings.{shift_ok_law}
use Rattle.document.specs.Refusals.{not_laid_out}
use Rattle.std.specs.Prelude.{Err, Ok}

-- ---- a part, by its place

good_spot : (h : Sizes) (p : Place) → is_good (spot_on h p) ≡ true
good_spot h Absent = refl
good_spot h (Sparse r l) = refl
good_spot h (Dense p) = refl

size_spot : (h : Sizes) (x : Mem) → InRange h → (p : Place) → size_in x (spot_on h p) ≡ size_of h x.pages p
size_spot h x z Absent = refl
size_spot h x z (Sparse r l) = refl
size_spot h x z (Dense p) = let t = wide_top h z in let e : 64 * wide h ≡ top h = omega arith in ap (bits_to (page_part h x.pages p)) e

-- nothing in all is nothing anywhere
all_zero : (f : ℕ → ℕ) (n : ℕ) → all_to (λ (e : ℕ). eqb (f e) 0) n ≡ eqb (sum_to f n) 0
all_zero f n =
    same_test
    (same_of (all_of (λ (e : ℕ). eqb (f e) 0) n (λ i l. eqb_of (f i) 0)) (sum_none f n) (λ s i l. let a = sum_part f i n l in omega arith))
    (eqb_of (sum_to f n) 0)

-- ---- on memory that follows the layout

module _ {x : Mem} (w : Follows x) where
  spot_entry : (e : ℕ) → e < entries_of x → spot_by x (word_by x e) ≡ spot_on (head x) (place_at (head x) x.table e)
  unfolding spot_of
  spot_entry e l = spot_inside x (head x) w.sizes w.room (chunk_at (head x) x.table e) (place_at (head x) x.table e) (w.places e l)

  good_at_law : (e : ℕ) → e < entries_of x → good_at x e ≡ true
  unfolding good_at
  good_at_law e l = ap is_good (spot_entry e l) ∙ good_spot (head x) (place_at (head x) x.table e)

  size_at : (e : ℕ) → e < entries_of x → size_by x e ≡ members_at (head x) x e
  unfolding size_by members_at
  size_at e l = ap (size_in x) (spot_entry e l) ∙ size_spot (head x) x w.sizes (place_at (head x) x.table e)

  entries_ok_law : entries_ok x.table ≡ true
  entries_ok_law = ap₂ ◌&&◌ (shift_ok_law x w.sizes) (entries_inside x w.sizes w.room w.over_fits)

  parts_ok_law : parts_ok x ≡ true
  unfolding parts_ok
  parts_ok_law = ap₂ ◌&&◌ entries_ok_law ((all_of (good_at x) (entries_of x) (λ e l. record { sound = λ h. h; whole = λ h. h })).whole good_at_law)

  size_total : sum_to (size_by x) (entries_of x) ≡ total (holds x)
  size_total = sum_ext (size_by x) (members_at (head x) x) (entries_of x) size_at ∙ sym (count_total w)

  pub len_is : len_by x ≡ Ok (total (holds x))
  unfolding len_by
  len_is = ap (λ (b : Bool). cond b (Ok (sum_to (size_by x) (entries_of x))) (Err not_laid_out)) parts_ok_law ∙ ap Ok size_total

  pub empty_is : is_empty_by x ≡ Ok (eqb (total (holds x)) 0)
  unfolding is_empty_by
  empty_is =
      ap (λ (b : Bool). cond b (Ok (all_to (λ (e : ℕ). eqb (size_by x e) 0) (entries_of x))) (Err not_laid_out)) parts_ok_law
      ∙ ap Ok (all_zero (size_by x) (entries_of x) ∙ ap (λ (n : ℕ). eqb n 0) size_total)

  used_count : count (used_at x) (entries_of x) ≡ chunks_in (state_of x)
  unfolding used_at
  used_count = sym (chunks_entries x (laid_ordered w))

  pub chunks_is : chunks_by x ≡ Ok (chunks_in (state_of x))
  unfolding chunks_by
  chunks_is = ap (λ (b : Bool). cond b (Ok (count (used_at x) (entries_of x))) (Err not_laid_out)) entries_ok_law ∙ ap Ok used_count

  pub any_is : has_any_by x ≡ Ok (not (eqb (chunks_in (state_of x)) 0))
  unfolding has_any_by
  any_is =
      ap (λ (b : Bool). cond b (Ok (not (eqb (count (used_at x) (entries_of x)) 0))) (Err not_laid_out)) entries_ok_law
      ∙ ap (λ (n : ℕ). Ok (not (eqb n 0))) used_count

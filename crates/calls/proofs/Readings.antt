-- `get` and `chunk_of` on memory that follows the layout: what the plain set says, and never a refusal. Assumes nothing.
use mathlib.Core.Path.{◌≡◌, refl, ap, ap₂, ◌∙◌}
use mathlib.Core.Bool.{Bool, true, false, cond, ◌&&◌}
use Prim.Native.Nat.{ℕ, ◌/◌, ◌%◌}
use lib.IntN.{ℤ, pos, negsuc}
use borrow.Author.Tests.{le-leb}
use Rattle.sums.specs.Ids.{has}
use Rattle.sparse.proofs.Searches.{found_rising}
use Rattle.layout.specs.Mem.{Mem}
use Rattle.document.specs.Sizes.{InRange, top}
use Rattle.document.specs.Refusals.{not_laid_out}
use Rattle.layout.specs.Sizes.{head}
use Rattle.layout.specs.Places.{row_part}
use Rattle.layout.specs.Entries.{place_of}
use Rattle.layout.specs.Short.{word_in, spot_on}
use Rattle.layout.specs.Meaning.{offsets, holds}
use Rattle.layout.specs.Follows.{RowListed, Follows}
use Rattle.layout.specs.Tests.{Walked}
use Rattle.document.specs.declared.sizes.Sizes.{Sizes}
use Rattle.layout.specs.declared.place.Place.{Place}
use Rattle.layout.specs.declared.place.Place.TheVariants.{Absent, Sparse, Dense}
use Rattle.layout_laws.proofs.Short.{word_in_is, spot_is}
use Rattle.layout_laws.proofs.Walked.{laid_walked}
use Rattle.layout_laws.proofs.Members.{listed_rising, listed_of}
use Rattle.calls.specs.Reading.{shift_ok, spot_if, has_at, get_by, chunk_of_by}
use Rattle.std.specs.Prelude.{Err, None, Ok, Some}

pub shift_ok_law : (x : Mem) → InRange (head x) → shift_ok x.table ≡ true
shift_ok_law x z = ap₂ ◌&&◌ (le-leb 9 (head x).s z.s_low) (le-leb (head x).s 25 z.s_high)

-- the short test finds each chunk's place
pub spot_of : {x : Mem} → Walked x (head x) → (c : ℕ) → spot_if x (word_in x.table c) ≡ spot_on (head x) (place_of (head x) x.table c)
spot_of {x} w c = ap (spot_if x) (word_in_is x w c) ∙ spot_is w c

-- what is looked up at a place is the place's offset
pub has_at_law : (h : Sizes) (x : Mem) (p : Place) (o : ℕ) → RowListed h x.rows p → has_at x o (spot_on h p) ≡ Ok (offsets h x p o)
has_at_law h x Absent o w = refl
has_at_law h x (Sparse r l) o w =
    let row = row_part h x.rows r in
    ap Ok (found_rising row l (listed_rising h row l w) o)
has_at_law h x (Dense p) o w = refl

module _ {x : Mem} (w : Follows x) where
  -- membership, of every id
  pub get_is : (z : ℤ) → get_by x z ≡ Ok (has (holds x) z)
  unfolding get_by holds
  get_is (pos n) =
      ap (λ (b : Bool). cond b (has_at x (n % top (head x)) (spot_if x (word_in x.table (n / top (head x))))) (Err not_laid_out)) (shift_ok_law x w.sizes)
      ∙ ap (has_at x (n % top (head x))) (spot_of (laid_walked w) (n / top (head x)))
      ∙ has_at_law (head x) x (place_of (head x) x.table (n / top (head x))) (n % top (head x)) (listed_of w (n / top (head x)))
  get_is (negsuc n) = ap (λ (b : Bool). cond b (Ok false) (Err not_laid_out)) (shift_ok_law x w.sizes)

  -- the chunk id of an id of 0 or more
  pub chunk_of_is : (n : ℕ) → chunk_of_by x (pos n) ≡ Ok (Some (n / top (head x)))
  unfolding chunk_of_by
  chunk_of_is n = ap (λ (b : Bool). cond b (Ok (Some (n / top (head x)))) (Err not_laid_out)) (shift_ok_law x w.sizes)

  pub chunk_of_none : (n : ℕ) → chunk_of_by x (negsuc n) ≡ Ok None
  unfolding chunk_of_by
  chunk_of_none n = ap (λ (b : Bool). cond b (Ok None) (Err not_laid_out)) (shift_ok_law x w.sizes)

-- Membership by a chunk's place, and what a place cannot hold: an absent chunk nothing, any chunk no offset of 2^s or more. Assumes nothing.
use mathlib.Core.Path.{◌≡◌, refl, sym, ap, ◌∙◌}
use mathlib.Core.List.{List}
use mathlib.Core.Bool.{Bool, true, false}
use Prim.Native.Nat.{ℕ, ◌*◌, ◌/◌, ◌%◌, ◌≤◌}
use native.Mathlib.Omega.{arith}
use lib.ListN.{length}
use lib.Dec.{eqb}
use lib.IntN.{pos}
use Rattle.sums.specs.Ids.{has}
use Rattle.sparse.specs.Row.{row_of, member}
use Rattle.sparse.proofs.Rows.{member_of}
use Rattle.dense.specs.Bits.{is_set}
use Rattle.dense.proofs.Bits.{bit_past}
use Rattle.layout.specs.Mem.{Mem}
use Rattle.document.specs.Sizes.{InRange, top}
use Rattle.layout.specs.Sizes.{wide, head}
use Rattle.layout.specs.Places.{row_part, page_part}
use Rattle.layout.specs.Entries.{place_of, word_of}
use Rattle.layout.specs.Meaning.{offsets, holds}
use Rattle.layout.specs.Follows.{RowListed}
use Rattle.layout.specs.Tests.{Walked}
use Rattle.layout.specs.Short.{spot_on, spot_of}
use Rattle.document.specs.declared.sizes.Sizes.{Sizes}
use Rattle.layout.specs.declared.place.Place.{Place}
use Rattle.layout.specs.declared.place.Place.TheVariants.{Absent, Sparse, Dense}
use Rattle.layout_laws.specs.Chunks.{spot_has, spot_below, below_in}
use Rattle.layout_laws.proofs.Sizes.{wide_top, part_short}
use Rattle.layout_laws.proofs.Short.{spot_is}

-- ---- on any memory

module _ (x : Mem) (n : ℕ) where
  pub holds_place : (p : Place) → place_of (head x) x.table (n / top (head x)) ≡ p → has (holds x) (pos n) ≡ offsets (head x) x p (n % top (head x))
  unfolding holds
  holds_place p e = ap (λ (q : Place). offsets (head x) x q (n % top (head x))) e

  pub holds_absent : place_of (head x) x.table (n / top (head x)) ≡ Absent → has (holds x) (pos n) ≡ false
  holds_absent = holds_place Absent

  pub holds_sparse : (r l : ℕ) → place_of (head x) x.table (n / top (head x)) ≡ Sparse r l → has (holds x) (pos n) ≡ member (row_of (row_part (head x) x.rows r)) l (n % top (head x))
  holds_sparse r l = holds_place (Sparse r l)

  pub holds_dense : (p : ℕ) → place_of (head x) x.table (n / top (head x)) ≡ Dense p → has (holds x) (pos n) ≡ is_set (page_part (head x) x.pages p) (n % top (head x))
  holds_dense p = holds_place (Dense p)

-- ---- by the part of a pool

pub spot_has_law : (h : Sizes) (x : Mem) (p : Place) (o : ℕ) → spot_has x (spot_on h p) o ≡ offsets h x p o
spot_has_law h x Absent o = refl
spot_has_law h x (Sparse r l) o = refl
spot_has_law h x (Dense p) o = refl

pub spot_below_law : (h : Sizes) (x : Mem) (p : Place) (o : ℕ) → spot_below x (spot_on h p) o ≡ below_in h x p o
spot_below_law h x Absent o = refl
spot_below_law h x (Sparse r l) o = refl
spot_below_law h x (Dense p) o = refl

-- what the short test finds says whether n is a member
pub holds_spot : (x : Mem) → Walked x (head x) → (n : ℕ) → has (holds x) (pos n) ≡ spot_has x (spot_of (head x) (length x.pages) (length x.rows) (word_of (head x) x.table (n / top (head x)))) (n % top (head x))
unfolding holds
holds_spot x w n = sym (ap (λ s. spot_has x s (n % top (head x))) (spot_is w (n / top (head x))) ∙ spot_has_law (head x) x (place_of (head x) x.table (n / top (head x))) (n % top (head x)))

-- ---- no offset of 2^s or more

past_clear : (ws : List ℕ) (o : ℕ) → 64 * length ws ≤ o → is_set ws o ≡ false
unfolding is_set
past_clear ws o l = ap (λ (d : ℕ). eqb d 1) (bit_past ws o l)

pub offsets_past : (h : Sizes) (x : Mem) → InRange h → (p : Place) → RowListed h x.rows p → (o : ℕ) → top h ≤ o → offsets h x p o ≡ false
offsets_past h x z Absent w o m = refl
offsets_past h x z (Sparse r l) w o m = go (member (row_of (row_part h x.rows r)) l o) refl
  where
    go : (b : Bool) → member (row_of (row_part h x.rows r)) l o ≡ b → b ≡ false
    go true e = absurd (let j = (member_of (row_of (row_part h x.rows r)) l o).sound e in let a = w.below j.0 j.1 in let q = j.2 in omega arith)
    go false e = refl
offsets_past h x z (Dense p) w o m = past_clear (page_part h x.pages p) o (let a = part_short x.pages (p * wide h) (wide h) in let b = wide_top h z in omega arith)

-- The two steps leave elements past the sizes, on any memory whose slots and entries lie within them. Assumes nothing.
use mathlib.Core.Path.{◌≡◌, refl}
use mathlib.Core.List.{List}
use mathlib.Core.Bool.{Bool, true, false}
use Prim.Native.Nat.{ℕ, ◌+◌, ◌*◌}
use lib.ListN.{length, replicate, length-replicate}
use lib.Dec.{ltb}
use borrow.Author.Tests.{ltb-true, ltb-false}
use Rattle.layout.specs.Mem.{Mem}
use Rattle.layout.specs.Sizes.{wide, table_size}
use Rattle.layout.specs.Places.{encoded}
use Rattle.layout.specs.Writes.{put_word}
use Rattle.layout.specs.Spare.{Beyond, Spare}
use Rattle.document.specs.declared.sizes.Sizes.{Sizes}
use Rattle.layout.specs.declared.place.Place.{Place}
use Rattle.layout.specs.declared.place.Place.TheVariants.{Absent, Sparse, Dense}
use Rattle.layout_laws.proofs.Spares as spares
use Rattle.layout_laws.proofs.Spares.{EntryRoom, RowSlot, PageSlot, beyond_same, beyond_then, slot_beyond, row_owner_beyond, page_owner_beyond, put_word_beyond}
use Rattle.steps.specs.Effects.{EntryFor}
use Rattle.steps.specs.Steps.{rowed, left_owner, left_row, paged}

-- room for an entry, as the steps ask for it
pub room_for : (h : Sizes) (t : List ℕ) (c : ℕ) → EntryFor h t c → EntryRoom h t c
room_for h t c f = go (ltb c h.d) refl
  where
    go : (b : Bool) → ltb c h.d ≡ b → EntryRoom h t c
    go true e = spares.direct (ltb-true c h.d e)
    go false e = spares.left (f (ltb-false c h.d e))

-- a place's row, if it has one, is one of the R
abbrev pub LeftSlot : Sizes → Mem → Place → Type 0
LeftSlot h x Absent = Unit
LeftSlot h x (Sparse r l) = RowSlot h x r
LeftSlot h x (Dense p) = Unit

module _ (h : Sizes) (x : Mem) (c : ℕ) (entry : EntryRoom h x.table c) where
  pub rowed_spare : (r l : ℕ) (row : List ℕ) → RowSlot h x r → length row ≡ h.m → Spare h x (rowed h x c r l row)
  unfolding rowed
  rowed_spare r l row s long =
      record {
        pages = beyond_same;
        rows = slot_beyond h.r x.rows r h.m row s long;
        blocks = beyond_same;
        table =
            beyond_then (put_word_beyond h x.table c (encoded (Sparse r l)) entry)
            (row_owner_beyond h (put_word h x.table c (encoded (Sparse r l))) r (c + 1) s.there);
      }

  -- a row that is left
  left_row_beyond : (q : Place) → LeftSlot h x q → Beyond (h.r * h.m) x.rows (left_row h x.rows q)
  left_row_beyond Absent s = beyond_same
  left_row_beyond (Sparse r l) s = slot_beyond h.r x.rows r h.m (replicate h.m 0) s (length-replicate h.m 0)
  left_row_beyond (Dense p) s = beyond_same

  left_owner_beyond : (t : List ℕ) (q : Place) → LeftSlot h x q → Beyond (table_size h) t (left_owner h t q)
  left_owner_beyond t Absent s = beyond_same
  left_owner_beyond t (Sparse r l) s = row_owner_beyond h t r 0 s.there
  left_owner_beyond t (Dense p) s = beyond_same

  pub paged_spare : (old : Place) (p : ℕ) (page : List ℕ) → LeftSlot h x old → PageSlot h x p → length page ≡ wide h → Spare h x (paged h x c old p page)
  unfolding paged
  paged_spare old p page left s long =
      let w = encoded (Dense p) in
      let t = put_word h x.table c w in
      record {
        pages = slot_beyond h.p x.pages p (wide h) page s long;
        rows = left_row_beyond old left;
        blocks = beyond_same;
        table =
            beyond_then (beyond_then (put_word_beyond h x.table c w entry) (left_owner_beyond t old left))
            (page_owner_beyond h (left_owner h t old) p (c + 1) s.there);
      }

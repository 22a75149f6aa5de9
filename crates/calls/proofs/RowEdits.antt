-- A row that gets a new offset at the place that the search gives: it is still a row of the layout, with that member more. Assumes nothing.
use mathlib.Core.Path.{◌≡◌, ap, ◌∙◌}
use mathlib.Core.Logic.{◌⊎◌, inl, inr}
use mathlib.Core.List.{List}
use mathlib.Core.Bool.{false, ◌||◌}
use Prim.Native.Nat.{ℕ, zero, suc, ◌+◌, ◌*◌, ◌≤◌, ◌<◌}
use native.Mathlib.Omega.{arith}
use lib.ListN.{length, get_or}
use lib.Dec.{eqb}
use Rattle.sums.proofs.Sums.{Inserted}
use Rattle.sparse.specs.Row.{row_of, member, below_of}
use Rattle.sparse.specs.Search.{spot_in, place_if}
use Rattle.sparse.specs.Edit.{inserted_at}
use Rattle.sparse.proofs.Rows.{below_le}
use Rattle.sparse.proofs.Searches.{search_rising, spot_rising}
use Rattle.std.proofs.lemmas.Bool.{cases_lt}
use Rattle.sparse.proofs.Edits.{length_inserted, inserted_beyond, inserted_at_law}
use Rattle.sparse.proofs.Inserts.{member_insert, rising_insert}
use Rattle.layout.specs.Mem.{Mem}
use Rattle.document.specs.Sizes.{top}
use Rattle.layout.specs.Places.{row_part}
use Rattle.layout.specs.Follows.{AllZero, Listed}
use Rattle.document.specs.declared.sizes.Sizes.{Sizes}
use Rattle.layout_laws.proofs.Sizes.{part_at}
use Rattle.layout_laws.proofs.Members.{listed_rising}

-- ---- a row with a new offset

module _ (h : Sizes) (row : List ℕ) (l o : ℕ) (w : Listed h row l) (long : length row ≡ h.m) where
  abbrev at : ℕ
  at = below_of (row_of row) l o

  -- the search says whether it is there, and where it goes
  pub spot_listed : spot_in row l o ≡ place_if (member (row_of row) l o) at
  spot_listed = spot_rising row l (listed_rising h row l w) o ∙ search_rising row l (listed_rising h row l w) o

  module _ (room : l < h.m) where
    abbrev row' : List ℕ
    row' = inserted_at row l at o

    fits : at ≤ l
    fits = below_le (row_of row) l o

    inside : l < length row
    inside = omega arith

    entered : Inserted (row_of row) (row_of row') at l o
    entered = inserted_at_law row l at o fits inside

    pub length_entered : length row' ≡ h.m
    length_entered = length_inserted row l at o fits inside ∙ long

    pub member_entered : (i : ℕ) → member (row_of row') (suc l) i ≡ (member (row_of row) l i || eqb o i)
    member_entered = member_insert (row_of row) (row_of row') at l o entered

    below_entered : o < top h → (i : ℕ) → i < suc l → get_or row' i 0 < top h
    below_entered t i m = go i m (cases_lt i at) (cases_lt at i)
      where
        go : (i : ℕ) → i < suc l → (i < at) ⊎ (at ≤ i) → (at < i) ⊎ (i ≤ at) → get_or row' i 0 < top h
        go i m (inl a) b = let f = fits in let e = entered.below i a in let s = w.below i (omega arith) in omega arith
        go i m (inr a) (inr b) = let q : i ≡ at = omega arith in let e : get_or row' i 0 ≡ o = ap (λ (k : ℕ). get_or row' k 0) q ∙ entered.here in omega arith
        go zero m (inr a) (inl b) = absurd (omega arith)
        go (suc j) m (inr a) (inl b) = let e = entered.above j (omega arith) (omega arith) in let s = w.below j (omega arith) in omega arith

    pub listed_entered : o < top h → member (row_of row) l o ≡ false → Listed h row' (suc l)
    listed_entered t new = record {
      below = below_entered t;
      rising = λ i m. rising_insert (row_of row) (row_of row') l o entered (listed_rising h row l w) new i (i + 1) (omega arith) m;
      rest = λ i m. let e : suc l + i ≡ l + suc i = omega arith in
          inserted_beyond row l at o fits inside (suc l + i) (omega arith) ∙ ap (λ (k : ℕ). get_or row k 0) e ∙ w.rest (suc i) (omega arith);
    }

-- ---- a free row, with its first offset

module _ (h : Sizes) (x : Mem) (r : ℕ) (free : AllZero x.rows (r * h.m) h.m) where
  pub listed_free : Listed h (row_part h x.rows r) 0
  listed_free = record {
    below = λ i l. absurd (omega arith);
    rising = λ i l. absurd (omega arith);
    rest = λ i l. let e : 0 + i ≡ i = omega arith in ap (λ (k : ℕ). get_or (row_part h x.rows r) k 0) e ∙ part_at x.rows (r * h.m) h.m i (omega arith) ∙ free i (omega arith);
  }

  -- its place is the first
  pub first_place : (o : ℕ) → below_of (row_of (row_part h x.rows r)) 0 o ≡ 0
  first_place o = let l = below_le (row_of (row_part h x.rows r)) 0 o in omega arith

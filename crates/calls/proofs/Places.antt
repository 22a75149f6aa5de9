-- The place of a chunk, as reading and inserting find it: one is the other's part of a pool. Assumes nothing.
use mathlib.Core.Path.{◌≡◌, refl, sym, ap, ◌∙◌}
use mathlib.Core.Bool.{Bool, true, false, cond, ◌&&◌}
use Prim.Native.Nat.{ℕ, ◌+◌, ◌*◌, ◌≤◌, ◌<◌}
use lib.ListN.{length}
use lib.Dec.{leb, ltb}
use borrow.Author.Tests.{leb-true, ltb-true}
use Rattle.sums.proofs.Rules.{both}
use Rattle.document.specs.declared.sizes.Sizes.{Sizes}
use Rattle.layout.specs.Mem.{Mem}
use Rattle.layout.specs.Sizes.{wide, head}
use Rattle.layout.specs.Places.{decoded}
use Rattle.layout.specs.Entries.{place_of}
use Rattle.layout.specs.Short.{spot_on, spot_of}
use Rattle.layout.specs.Tests.{Walked}
use Rattle.layout.specs.declared.place.Place.{Place}
use Rattle.layout.specs.declared.place.Place.TheVariants.{Absent, Sparse, Dense}
use Rattle.layout_laws.proofs.Short.{owned_of, place_inside}
use Rattle.calls.specs.Reading.{spot_by}
use Rattle.calls.specs.Insert.{inside_slices}
use Rattle.document.specs.Refusals.{not_laid_out}
use Rattle.layout.specs.declared.find.Spot.TheVariants.{Nowhere, Page, Row}
use Rattle.std.specs.Prelude.{Err, Ok}

-- ---- one law for both

pub spot_by_law : (x : Mem) (w : ℕ) → spot_by x w ≡ cond (inside_slices x (decoded w)) (spot_on (head x) (decoded w)) (Err not_laid_out)
unfolding spot_of
spot_by_law x w = refl

-- ---- where the walk finds nothing wrong, every chunk's place is inside

never_bad : (h : Sizes) (p : Place) → spot_on h p ≡ Err not_laid_out → ⊥
never_bad h Absent e = cc
never_bad h (Sparse r l) e = cc
never_bad h (Dense p) e = cc

pub inside_of : {x : Mem} → Walked x (head x) → (c : ℕ) → inside_slices x (place_of (head x) x.table c) ≡ true
inside_of {x} w c = place_inside x (head x) w.sizes w.room c (place_of (head x) x.table c) (owned_of w c)

-- ---- a row, a page that was found

pub record RowIn (x : Mem) (r l : ℕ) : Type 0 where
  pub there : r < (head x).r
  pub small : (head x).m ≤ 1024
  pub short : l ≤ (head x).m
  pub fits : r * (head x).m + (head x).m ≤ length x.rows

pub record PageIn (x : Mem) (p : ℕ) : Type 0 where
  pub there : p < (head x).p
  pub fits : p * wide (head x) + wide (head x) ≤ length x.pages

pub row_in : (x : Mem) (r l : ℕ) → inside_slices x (Sparse r l) ≡ true → RowIn x r l
row_in x r l e =
    let m = (head x).m in
    let n = (head x).r in
    let g = both (ltb r n && leb m 1024 && leb l m) (leb (r * m + m) (length x.rows)) e in
    let h = both (ltb r n && leb m 1024) (leb l m) g.0 in
    let i = both (ltb r n) (leb m 1024) h.0 in
    record {
      there = ltb-true r n i.0;
      small = leb-true m 1024 i.1;
      short = leb-true l m h.1;
      fits = leb-true (r * m + m) (length x.rows) g.1;
    }

pub page_in : (x : Mem) (p : ℕ) → inside_slices x (Dense p) ≡ true → PageIn x p
page_in x p e =
    let n = wide (head x) in
    let g = both (ltb p (head x).p) (leb (p * n + n) (length x.pages)) e in
    record { there = ltb-true p (head x).p g.0; fits = leb-true (p * n + n) (length x.pages) g.1 }

-- the place that a word names is one, and inside
pub record Names (x : Mem) (w : ℕ) (p : Place) : Type 0 where
  pub is : decoded w ≡ p
  pub good : inside_slices x p ≡ true

-- the row of a part of the rows
pub record RowAt (x : Mem) (w a n l : ℕ) : Type 0 where
  pub row : ℕ
  pub names : Names x w (Sparse row l)
  pub start : a ≡ row * (head x).m
  pub long : n ≡ (head x).m

pub record PageAt (x : Mem) (w a n : ℕ) : Type 0 where
  pub page : ℕ
  pub names : Names x w (Dense page)
  pub start : a ≡ page * wide (head x)
  pub long : n ≡ wide (head x)

module _ (x : Mem) (w : ℕ) where
  row_if : (p : Place) → decoded w ≡ p → (b : Bool) → inside_slices x p ≡ b → (a n l : ℕ) → Ok (Row a n l) ≡ cond b (spot_on (head x) p) (Err not_laid_out) → RowAt x w a n l
  row_if Absent d true g a n l e = absurd cc
  row_if (Sparse r k) d true g a n l e =
      let s : l ≡ k = cc in
      record {
        row = r;
        names = record { is = d ∙ ap (Sparse r) (sym s); good = ap (λ (j : ℕ). inside_slices x (Sparse r j)) s ∙ g };
        start = cc;
        long = cc;
      }
  row_if (Dense p) d true g a n l e = absurd cc
  row_if p d false g a n l e = absurd cc

  pub row_at : (a n l : ℕ) → Ok (Row a n l) ≡ spot_by x w → RowAt x w a n l
  row_at a n l e = row_if (decoded w) refl (inside_slices x (decoded w)) refl a n l (e ∙ spot_by_law x w)

  page_if : (p : Place) → decoded w ≡ p → (b : Bool) → inside_slices x p ≡ b → (a n : ℕ) → Ok (Page a n) ≡ cond b (spot_on (head x) p) (Err not_laid_out) → PageAt x w a n
  page_if Absent d true g a n e = absurd cc
  page_if (Sparse r k) d true g a n e = absurd cc
  page_if (Dense p) d true g a n e = record { page = p; names = record { is = d; good = g }; start = cc; long = cc }
  page_if p d false g a n e = absurd cc

  pub page_at : (a n : ℕ) → Ok (Page a n) ≡ spot_by x w → PageAt x w a n
  page_at a n e = page_if (decoded w) refl (inside_slices x (decoded w)) refl a n (e ∙ spot_by_law x w)

  none_if : (p : Place) → decoded w ≡ p → (b : Bool) → inside_slices x p ≡ b → Ok Nowhere ≡ cond b (spot_on (head x) p) (Err not_laid_out) → Names x w Absent
  none_if Absent d b g e = record { is = d; good = refl }
  none_if (Sparse r k) d true g e = absurd cc
  none_if (Sparse r k) d false g e = absurd cc
  none_if (Dense p) d true g e = absurd cc
  none_if (Dense p) d false g e = absurd cc

  pub none_at : Ok Nowhere ≡ spot_by x w → Names x w Absent
  none_at e = none_if (decoded w) refl (inside_slices x (decoded w)) refl (e ∙ spot_by_law x w)

  bad_if : (p : Place) (b : Bool) → Err not_laid_out ≡ cond b (spot_on (head x) p) (Err not_laid_out) → b ≡ false
  bad_if p true e = absurd (never_bad (head x) p (sym e))
  bad_if p false e = refl

  pub bad_at : Err not_laid_out ≡ spot_by x w → inside_slices x (decoded w) ≡ false
  bad_at e = bad_if (decoded w) (inside_slices x (decoded w)) (e ∙ spot_by_law x w)

-- A part of a pool as it is lent: it lies inside its pool, a row's members in it, and a page has a bit for every offset. Assumes nothing.
use mathlib.Core.Path.{◌≡◌, sym}
use Prim.Native.Nat.{ℕ, ◌+◌, ◌-◌, ◌*◌, ◌^◌, ◌≤◌}
use native.Mathlib.Omega.{arith}
use lib.ListN.{length, take, drop}
use mathlib.Core.Bool.{Bool, true, false, cond}
use Rattle.std.specs.Prelude.{Ok, Err}
use Rattle.numbers.proofs.Powers.{powers}
use Rattle.document.specs.Refusals.{not_laid_out}
use Rattle.document.specs.declared.refusal.Refusal.{Refusal}
use Rattle.document.specs.declared.sizes.Sizes.{Sizes}
use Rattle.layout.specs.Mem.{Mem}
use Rattle.layout.specs.Sizes.{head}
use Rattle.layout.specs.Found.{Spotted}
use Rattle.layout.specs.Places.{decoded}
use Rattle.layout.specs.Short.{spot_on, spot_fits, spot_of}
use Rattle.layout.specs.declared.place.Place.{Place}
use Rattle.layout.specs.declared.place.Place.TheVariants.{Absent, Sparse, Dense}
use Rattle.layout.specs.declared.find.Spot.TheVariants.{Page, Row}
use Rattle.layout.proofs.Lent.{length_lent}
use Rattle.calls.specs.Reading.{spot_by}
use Rattle.calls.proofs.Spots.{spot_row, spot_page}

pub record RowLent (x : Mem) (a n l : ℕ) : Type 0 where
  pub inside : a + n ≤ length x.rows
  pub members : l ≤ length (take (a + n - a) (drop a x.rows))

pub record PageLent (x : Mem) (a n : ℕ) : Type 0 where
  pub inside : a + n ≤ length x.pages
  pub words : length (take (a + n - a) (drop a x.pages)) ≡ n
  pub some : 8 ≤ n
  pub most : n ≤ 524288
  pub bits : 64 * n ≡ 2 ^ (head x).s

-- ---- one that is not inside its pool is refused for that

refused_part : (h : Sizes) (q : Place) (b : Bool) (n : Refusal) → ◌≡◌ {A = Spotted} (Err n) (cond b (spot_on h q) (Err not_laid_out)) → n ≡ not_laid_out
refused_part h q false n e = cc
refused_part h Absent true n e = cc
refused_part h (Sparse r l) true n e = cc
refused_part h (Dense p) true n e = cc

pub part_refused : (x : Mem) (w : ℕ) (n : Refusal) → Err n ≡ spot_by x w → n ≡ not_laid_out
unfolding spot_of
part_refused x w n e = refused_part (head x) (decoded w) (spot_fits (head x) (length x.pages) (length x.rows) (decoded w)) n e

-- ---- one that is inside

module _ (x : Mem) (w a n : ℕ) where
  pub row_lent : (l : ℕ) → Ok (Row a n l) ≡ spot_by x w → RowLent x a n l
  row_lent l e =
      let i = spot_row x w a n l (sym e) in
      record { inside = i.inside; members = omega (arith, i.short, length_lent x.rows a n i.inside) }

  pub page_lent : 9 ≤ (head x).s → (head x).s ≤ 25 → Ok (Page a n) ≡ spot_by x w → PageLent x a n
  page_lent low high e =
      let i = spot_page x w a n (sym e) in
      let p = powers (head x).s low high in
      let l = i.wide in
      record {
        inside = i.inside;
        words = length_lent x.pages a n i.inside;
        some = omega (arith, p.some_words);
        most = omega (arith, p.most_words);
        bits = omega (arith, p.words);
      }

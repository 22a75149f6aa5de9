-- A part of a pool that a word names lies inside its pool and is as wide as the sizes say. Assumes nothing.
use mathlib.Core.Path.{◌≡◌, refl, sym, ap, ◌∙◌}
use Prim.Native.Nat.{ℕ, ◌+◌, ◌-◌, ◌*◌, ◌/◌, ◌^◌, ◌≤◌, ◌<◌}
use native.Mathlib.Omega.{arith}
use lib.ListN.{length}
use Rattle.numbers.proofs.Powers.{powers}
use Rattle.layout.specs.Mem.{Mem}
use Rattle.layout.specs.Sizes.{head}
use Rattle.layout.specs.Part.{Within}
use Rattle.calls.specs.Reading.{spot_by}
use Rattle.calls.proofs.Places.{row_at, page_at, row_in, page_in}
use Rattle.layout.specs.Found.{Spotted}
use Rattle.layout.specs.declared.find.Spot.TheVariants.{Nowhere, Page, Row}
use Rattle.std.specs.Prelude.{Err, Ok}

-- n places from a on, of which the first l are taken
pub record InRows (rows a n l : ℕ) : Type 0 where
  pub inside : a + n ≤ rows
  pub short : l ≤ n
  pub small : n ≤ 1024

-- n words from a on
pub record InPages (s pages a n : ℕ) : Type 0 where
  pub inside : a + n ≤ pages
  pub wide : n ≡ 2 ^ (s - 6)

module _ (x : Mem) (w : ℕ) where
  pub spot_row : (a n l : ℕ) → spot_by x w ≡ Ok (Row a n l) → InRows (length x.rows) a n l
  spot_row a n l e =
      let p = row_at x w a n l (sym e) in
      let q = row_in x p.row l p.names.good in
      record {
        inside = omega (arith, p.start, p.long, q.fits);
        short = omega (arith, p.long, q.short);
        small = omega (arith, p.long, q.small);
      }

  pub spot_page : (a n : ℕ) → spot_by x w ≡ Ok (Page a n) → InPages (head x).s (length x.pages) a n
  spot_page a n e =
      let p = page_at x w a n (sym e) in
      let q = page_in x p.page p.names.good in
      record { inside = omega (arith, p.start, p.long, q.fits); wide = p.long }

-- ---- offsets of a chunk, where s is the table's

pub offset_narrow : (s o : ℕ) → 9 ≤ s → s ≤ 25 → o < 2 ^ s → o < 2 ^ 32
offset_narrow s o low high l = let p = powers s low high in omega (arith, p.most)

module _ (s t pages a n o : ℕ) (low : 9 ≤ s) (high : s ≤ 25) (e : s ≡ t) (l : o < 2 ^ s) (i : InPages t pages a n) where
  width : n ≡ 2 ^ (s - 6)
  width = i.wide ∙ ap (λ (j : ℕ). 2 ^ (j - 6)) (sym e)

  -- the page has a bit for it
  pub offset_bit : o < 64 * n
  offset_bit = let p = powers s low high in let w = width in omega (arith, p.words)

  -- and a block of eight words
  pub offset_block : o / 512 * 8 + 8 ≤ n
  offset_block = let p = powers s low high in let w = width in omega (arith, p.blocks, p.block_words)

-- so it lies within the part that any word names
pub within_spot : (x : Mem) (s w o : ℕ) → 9 ≤ s → s ≤ 25 → s ≡ (head x).s → o < 2 ^ s → Within (length x.pages) (length x.rows) o (spot_by x w)
within_spot x s w o low high e l = go (spot_by x w) refl
  where
    go : (q : Spotted) → spot_by x w ≡ q → Within (length x.pages) (length x.rows) o q
    go (Ok Nowhere) f = tt
    go (Ok (Row a n k)) f = let i = spot_row x w a n k f in (i.inside, i.short, offset_narrow s o low high l)
    go (Ok (Page a n)) f = let i = spot_page x w a n f in (i.inside, offset_bit s (head x).s (length x.pages) a n o low high e l i)
    go (Err n) f = tt

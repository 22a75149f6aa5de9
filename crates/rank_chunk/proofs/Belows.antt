-- Members of a chunk below an offset, way by way. Assumes nothing.
use mathlib.Core.Path.{◌≡◌, refl, sym, ap, ◌∙◌}
use mathlib.Core.List.{List, []}
use Prim.Native.Nat.{ℕ, ◌+◌, ◌-◌, ◌*◌, ◌/◌, ◌%◌, ◌^◌, ◌≤◌, ◌<◌}
use native.Mathlib.Omega.{arith}
use lib.ListN.{length, get_or, take, drop}
use borrow.Author.Tests.{lt-ltb}
use Rattle.sparse.specs.Search.{lower_of}
use Rattle.sparse.proofs.Halving.{lower_le}
use Rattle.dense.specs.Bits.{bits_to}
use Rattle.dense.proofs.Counts.{bits_le}
use Rattle.layout.specs.Mem.{Mem, mem}
use Rattle.layout.specs.Sizes.{head}
use Rattle.calls.specs.Reading.{spot_by}
use Rattle.calls.proofs.Spots.{spot_row, spot_page, offset_block, offset_narrow}
use Rattle.ranks.specs.Rank.{in_page, below_at}
use Rattle.rank_chunk.specs.Part.{HasBlock}
use Rattle.layout.proofs.Lent.{span}
use Rattle.layout.specs.Found.{Spotted}
use Rattle.layout.specs.declared.find.Spot.TheVariants.{Nowhere, Page, Row}
use Rattle.std.specs.Prelude.{Err, Ok}

-- ---- in a page

-- what eight words have below an offset is small
pub block_small : (ws : List ℕ) (o r : ℕ) → r ≡ bits_to ws (o % 512) → r < 512
block_small ws o r e = let a = bits_le ws (o % 512) in omega arith

module _ (pages blocks : List ℕ) (a n o : ℕ) where
  pub page_below : (ws : List ℕ) (k r : ℕ) → a / 8 + o / 512 < length blocks → k ≡ get_or blocks (a / 8 + o / 512) 0 → ws ≡ take 8 (drop (o / 512 * 8) (take (a + n - a) (drop a pages))) → r ≡ bits_to ws (o % 512)
      → Ok (k + r) ≡ in_page (mem pages [] blocks []) a n o
  page_below ws k r l d e f =
      let b = lt-ltb (a / 8 + o / 512) (length blocks) l in
      let g = span a n in
      rw b (cc)

-- ---- at a part

module _ (x : Mem) (o : ℕ) where
  -- nothing of it is read off the table
  pub below_same : (q : Spotted) → below_at (mem x.pages x.rows x.blocks []) o q ≡ below_at x o q
  below_same (Ok Nowhere) = refl
  below_same (Ok (Row a n l)) = refl
  below_same (Ok (Page a n)) = refl
  below_same (Err n) = refl

  pub has_block : (s w : ℕ) → 9 ≤ s → s ≤ 25 → s ≡ (head x).s → o < 2 ^ s → HasBlock (length x.pages) (length x.rows) o (spot_by x w)
  has_block s w low high e l = go (spot_by x w) refl
    where
      go : (q : Spotted) → spot_by x w ≡ q → HasBlock (length x.pages) (length x.rows) o q
      go (Ok Nowhere) f = tt
      go (Ok (Row a n k)) f = let i = spot_row x w a n k f in (i.inside, i.short, i.small, offset_narrow s o low high l)
      go (Ok (Page a n)) f = let i = spot_page x w a n f in (i.inside, offset_block s (head x).s (length x.pages) a n o low high e l i)
      go (Err n) f = tt

pub below_row : (x : Mem) (o : ℕ) (q : Spotted) (a n l k : ℕ) → q ≡ Ok (Row a n l) → l ≤ n → n ≤ 1024 → k ≡ lower_of (take (a + n - a) (drop a x.rows)) l o → (Ok k ≡ below_at x o q) × (k < 2 ^ 63)
below_row x o q a n l k e s t f = (
  ap Ok (f ∙ ap (λ (j : ℕ). lower_of (take j (drop a x.rows)) l o) (span a n)) ∙ ap (below_at x o) (sym e),
  (let b = lower_le (take (a + n - a) (drop a x.rows)) l o in omega arith),
)

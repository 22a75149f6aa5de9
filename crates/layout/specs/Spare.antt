-- Document 01: elements past the sizes are never written.
use Rattle.std.specs.Prelude.{◌≡◌, ℕ, ◌*◌, ◌≤◌, List, length, get_or}
use Rattle.layout.specs.Mem.{Mem}
use Rattle.layout.specs.Sizes.{wide, blocks_of, table_size}
use Rattle.document.specs.declared.sizes.Sizes.{Sizes}

-- ys is as long as xs, and from n on holds what xs holds
pub record Beyond (n : ℕ) (xs ys : List ℕ) : Type 0 where
  pub long : length ys ≡ length xs
  pub same : (i : ℕ) → n ≤ i → get_or ys i 0 ≡ get_or xs i 0

-- past the sizes h, memory y is what memory x is
pub record Spare (h : Sizes) (x y : Mem) : Type 0 where
  pub pages : Beyond (h.p * wide h) x.pages y.pages
  pub rows : Beyond (h.r * h.m) x.rows y.rows
  pub blocks : Beyond (h.p * blocks_of h) x.blocks y.blocks
  pub table : Beyond (table_size h) x.table y.table

-- Sizes: powers of two that fit each other, and a slot's part of its pool. Assumes nothing.
use mathlib.Core.Path.{◌≡◌, sym, ap, ◌∙◌}
use mathlib.Core.List.{List}
use Prim.Native.Nat.{ℕ, suc, ◌+◌, ◌-◌, ◌*◌, ◌^◌, ◌≤◌, ◌<◌}
use native.Mathlib.Nat.{mul-le-mul_right}
use native.Mathlib.Omega.{arith}
use lib.ListN.{length, get_or, take, drop, length-take, length-drop}
use lib.Seq.{get_or-take, get_or-drop}
use lib.Pow.{pow_mono, pow-add}
use Rattle.layout.specs.Mem.{Mem}
use Rattle.document.specs.Sizes.{InRange, top, last_chunk}
use Rattle.layout.specs.Sizes.{RoomIn, wide, blocks_of}
use Rattle.layout.specs.Places.{row_part, page_part, block_part}
use Rattle.document.specs.declared.sizes.Sizes.{Sizes}

-- ---- powers of two

-- 2^k is 2^(k-j) times 2^j
pub pow_less : (j k : ℕ) → j ≤ k → 2 ^ (k - j) * 2 ^ j ≡ 2 ^ k
pow_less j k l = let e : k - j + j ≡ k = omega arith in sym (pow-add 2 (k - j) j) ∙ ap (λ (i : ℕ). 2 ^ i) e

module _ (h : Sizes) (z : InRange h) where
  -- 2^(63-s) chunks of 2^s ids
  pub all_ids : last_chunk h * top h ≡ 2 ^ 63
  all_ids = let a = z.s_high in pow_less h.s 63 (omega arith)

  -- a page has a bit for each id, a block 512 of them
  pub wide_top : wide h * 64 ≡ top h
  wide_top = let a = z.s_low in pow_less 6 h.s (omega arith)

  pub blocks_top : blocks_of h * 512 ≡ top h
  blocks_top = let a = z.s_low in pow_less 9 h.s (omega arith)

  pub blocks_wide : blocks_of h * 8 ≡ wide h
  blocks_wide = let a = wide_top in let b = blocks_top in omega arith

  -- every direct chunk id is below 2^(63-s)
  pub direct_last : h.d < last_chunk h
  direct_last = let a = z.s_high in let b = z.d_high in let p : 2 ^ 38 ≤ last_chunk h = pow_mono {i = 38} {j = 63 - h.s} (omega arith) in omega arith

-- ---- slots

-- the part of slot i of n, each k long, is inside
pub slot_inside : (i n k : ℕ) → i < n → i * k + k ≤ n * k
slot_inside i n k l = omega (arith, mul-le-mul_right {m = suc i} {n = n} k l)

pub part_at : (xs : List ℕ) (a k j : ℕ) → j < k → get_or (take k (drop a xs)) j 0 ≡ get_or xs (a + j) 0
part_at xs a k j l = get_or-take k (drop a xs) j 0 l ∙ get_or-drop a xs j 0

pub part_length : (xs : List ℕ) (a k : ℕ) → a + k ≤ length xs → length (take k (drop a xs)) ≡ k
part_length xs a k l = let p = length-take k (drop a xs) in let q = length-drop a xs in omega arith

pub part_short : (xs : List ℕ) (a k : ℕ) → length (take k (drop a xs)) ≤ k
part_short xs a k = let p = length-take k (drop a xs) in omega arith

module _ (h : Sizes) (x : Mem) (room : RoomIn h x) where
  pub row_length : (r : ℕ) → r < h.r → length (row_part h x.rows r) ≡ h.m
  row_length r l = let a = room.in_rows in let s = slot_inside r h.r h.m l in part_length x.rows (r * h.m) h.m (omega arith)

  pub page_length : (p : ℕ) → p < h.p → length (page_part h x.pages p) ≡ wide h
  page_length p l = let a = room.in_pages in let s = slot_inside p h.p (wide h) l in part_length x.pages (p * wide h) (wide h) (omega arith)

  pub block_length : (p : ℕ) → p < h.p → length (block_part h x.blocks p) ≡ blocks_of h
  block_length p l = let a = room.in_blocks in let s = slot_inside p h.p (blocks_of h) l in part_length x.blocks (p * blocks_of h) (blocks_of h) (omega arith)

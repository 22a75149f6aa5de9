-- Block counts, a turn at a time; one page's, all pages', and a page's members from its last block. Assumes nothing.
use mathlib.Core.Path.{◌≡◌, refl, ap, ap₂, ◌∙◌}
use mathlib.Core.List.{List}
use Prim.Native.Nat.{ℕ, zero, suc, ◌+◌, ◌-◌, ◌*◌, ◌≤◌, ◌<◌}
use native.Mathlib.Numerals.{add-one}
use native.Mathlib.Omega.{arith}
use lib.ListN.{length, get_or, set, take, drop}
use Rattle.numbers.proofs.Powers.{powers}
use Rattle.dense.specs.Bits.{bits_to}
use Rattle.dense.proofs.Counts.{bits_zero, bits_le}
use Rattle.dense.proofs.Parts.{bits_part}
use Rattle.document.specs.Sizes.{InRange, top}
use Rattle.layout.specs.Sizes.{wide, blocks_of}
use Rattle.layout.specs.Places.{page_part}
use Rattle.document.specs.declared.sizes.Sizes.{Sizes}
use Rattle.layout_laws.proofs.Sizes.{blocks_top}
use Rattle.ranks.specs.Form.{blocked, blocked_to}
use Rattle.ranks.proofs.Blocks.{blocks_at}
use Rattle.rank_counts.specs.Counts.{counted, BlocksCounted}
use Rattle.layout.proofs.Lent.{span}

-- ---- the words of one page

-- one block more
pub block_more : (words ws : List ℕ) (b r : ℕ) → ws ≡ take 8 (drop (8 * b) words) → r ≡ bits_to ws 512 → bits_to words (512 * b) + r ≡ bits_to words (512 * (b + 1))
block_more words ws b r e f =
    let p = bits_part (8 * b) 8 words 512 (omega arith) in
    let i : 64 * (8 * b) ≡ 512 * b = omega arith in
    let j : 64 * (8 * b) + 512 ≡ 512 * (b + 1) = omega arith in
    let x = ap (bits_to words) i in
    let y = ap (bits_to words) j in
    let z = f ∙ ap (λ (v : List ℕ). bits_to v 512) e in
    omega arith

module _ (words blocks : List ℕ) (k : ℕ) where
  pub counted_none : counted words blocks k 0 ≡ blocks
  unfolding counted
  counted_none = refl

  pub counted_next : (b : ℕ) → counted words blocks k (b + 1) ≡ set (counted words blocks k b) (k + b) (bits_to words (512 * b))
  unfolding counted
  counted_next b = ap (counted words blocks k) (add-one b)

pub ruleset block_turn = (counted_none, counted_next, block_more, bits_zero, bits_le)

-- ---- page p

counted_blocked : (h : Sizes) (pages blocks : List ℕ) (p n : ℕ) → counted (page_part h pages p) blocks (p * blocks_of h) n ≡ blocked h pages blocks p n
unfolding counted blocked
counted_blocked h pages blocks p zero = refl
counted_blocked h pages blocks p (suc n) = ap (λ (xs : List ℕ). set xs (p * blocks_of h + n) (bits_to (page_part h pages p) (512 * n))) (counted_blocked h pages blocks p n)

-- its words, as they are lent
pub page_words : (h : Sizes) (pages : List ℕ) (p a m : ℕ) → a ≡ p * wide h → m ≡ wide h → take (a + m - a) (drop a pages) ≡ page_part h pages p
page_words h pages p a m ea em = ap (λ (i : ℕ). take i (drop a pages)) (span a m) ∙ ap₂ (λ (i j : ℕ). take i (drop j pages)) em ea

pub page_counted : (h : Sizes) (pages blocks out words : List ℕ) (p k n : ℕ) → words ≡ page_part h pages p → k ≡ p * blocks_of h → n ≡ blocks_of h
    → out ≡ counted words blocks k n → out ≡ blocked h pages blocks p (blocks_of h)
page_counted h pages blocks out words p k n ew ek en e =
    e ∙ (ap (λ (ws : List ℕ). counted ws blocks k n) ew ∙ (ap₂ (counted (page_part h pages p) blocks) ek en ∙ counted_blocked h pages blocks p (blocks_of h)))

-- a page's members
pub total_small : (h : Sizes) (z : InRange h) (pages : List ℕ) (p t : ℕ) → t ≡ bits_to (page_part h pages p) (top h) → t ≤ 33554432
total_small h z pages p t e = let q = powers h.s z.s_low z.s_high in omega (arith, bits_le (page_part h pages p) (top h), q.most)

-- its members, those before its last block and that block's, where v and r are what was read
module _ (h : Sizes) (z : InRange h) (pages blocks words ws : List ℕ) (told : BlocksCounted h pages blocks) (p k n v r : ℕ) (l : p < h.p) (ew : words ≡ page_part h pages p) (ek : k ≡ p * blocks_of h) (en : n ≡ blocks_of h)
    (ev : v ≡ get_or blocks (k + (n - 1)) 0) (eb : ws ≡ take 8 (drop (8 * (n - 1)) words)) (er : r ≡ bits_to ws 512) where
  pub page_total : v + r ≡ bits_to (page_part h pages p) (top h)
  page_total =
      let q = powers h.s z.s_low z.s_high in
      let i : n - 1 < blocks_of h = omega (arith, q.some_blocks) in
      let j : 512 * (n - 1 + 1) ≡ top h = omega (arith, blocks_top h z, q.some_blocks) in
      let u = ev ∙ (ap (λ (d : ℕ). get_or blocks (d + (n - 1)) 0) ek ∙ told.at p (n - 1) l i) in
      let b = block_more (page_part h pages p) ws (n - 1) r (eb ∙ ap (λ (xs : List ℕ). take 8 (drop (8 * (n - 1)) xs)) ew) er in
      ap (λ (d : ℕ). d + r) u ∙ (b ∙ ap (bits_to (page_part h pages p)) j)

  pub told_small : v + r ≤ 33554432
  told_small = let q = powers h.s z.s_low z.s_high in omega (arith, page_total, bits_le (page_part h pages p) (top h), q.most)

-- ---- all pages

module _ (h : Sizes) (pages blocks : List ℕ) where
  pub blocked_none : blocked_to h pages blocks 0 ≡ blocks
  unfolding blocked_to
  blocked_none = refl

  pub blocked_next : (p : ℕ) → blocked_to h pages blocks (p + 1) ≡ blocked h pages (blocked_to h pages blocks p) p (blocks_of h)
  unfolding blocked_to
  blocked_next p = ap (blocked_to h pages blocks) (add-one p)

pub ruleset page_turn = (blocked_none, blocked_next)

-- after which every block is told
pub all_told : (h : Sizes) (pages start now : List ℕ) → h.p * blocks_of h ≤ length start → now ≡ blocked_to h pages start h.p → BlocksCounted h pages now
all_told h pages start now room e = record { at = λ p b l m. ap (λ (xs : List ℕ). get_or xs (p * blocks_of h + b) 0) e ∙ blocks_at h pages start h.p p b l m room }

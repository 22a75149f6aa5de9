-- Running sums: what a set keeps of a count, members of entries and of blocks, and what a turn of each loop adds. Assumes nothing.
use mathlib.Core.Path.{◌≡◌, refl, sym, ◌∙◌, ap, ap₂}
use mathlib.Core.List.{List}
use mathlib.Core.Bool.{Bool, true, false}
use Prim.Native.Nat.{ℕ, suc, ◌+◌, ◌-◌, ◌*◌, ◌≤◌, ◌<◌}
use native.Mathlib.Nat.{mul-le-mul_right, suc-mul}
use native.Mathlib.Omega.{arith}
use lib.ListN.{length, get_or, take, drop, length-take, length-drop}
use Rattle.sums.specs.Sums.{sum_to}
use Rattle.sums.specs.Rules.{all_to}
use Rattle.sums.proofs.Sums.{sum_zero, sum_next}
use Rattle.sums.proofs.Rules.{all_of, eqb_of, bool_of}
use Rattle.numbers.proofs.Powers.{powers}
use Rattle.dense.specs.Bits.{bits_to}
use Rattle.dense.proofs.Counts.{bits_zero, bits_le}
use Rattle.dense.proofs.Parts.{bits_part}
use Rattle.document.specs.Sizes.{InRange, top}
use Rattle.layout.specs.Sizes.{wide, blocks_of}
use Rattle.layout.specs.Places.{page_part}
use Rattle.layout.specs.Entries.{entries, chunk_at, place_at}
use Rattle.layout.specs.Follows.{size_of}
use Rattle.layout_laws.proofs.Walked.{size_small}
use Rattle.document.specs.declared.sizes.Sizes.{Sizes}
use Rattle.fullcheck.specs.Check.{WalkShown, BlocksShown, size_of_entry, kept_if, block_is, page_blocks}

-- ---- what is kept of a count

kept_add : (r : Bool) (a b : ℕ) → kept_if r a + kept_if r b ≡ kept_if r (a + b)
kept_add true a b = refl
kept_add false a b = omega arith

kept_zero : (r : Bool) (n : ℕ) → n ≡ 0 → 0 ≡ kept_if r n
kept_zero true n e = sym e
kept_zero false n e = refl

kept_le : (r : Bool) (a n : ℕ) → a ≤ n → kept_if r a ≤ n
kept_le true a n l = l
kept_le false a n l = omega arith

-- ---- members

module _ (h : Sizes) (pages t : List ℕ) (r : Bool) (e : ℕ) where
  pub size_le : WalkShown h t → e < entries h t → kept_if r (size_of_entry h pages t e) ≤ 33554432
  unfolding size_of_entry
  size_le o l = kept_le r (size_of h pages (place_at h t e)) 33554432 (size_small h pages t o.sizes (chunk_at h t e) (place_at h t e) (o.places e l))

  pub size_more : (s k : ℕ) → s ≡ kept_if r (sum_to (size_of_entry h pages t) e) → k ≡ kept_if r (size_of_entry h pages t e) → s + k ≡ kept_if r (sum_to (size_of_entry h pages t) (e + 1))
  size_more s k p q = ap₂ ◌+◌ p q ∙ (kept_add r (sum_to (size_of_entry h pages t) e) (size_of_entry h pages t e) ∙ ap (kept_if r) (sym (sum_next (size_of_entry h pages t) e)))

pub size_none : (h : Sizes) (pages t : List ℕ) (r : Bool) → 0 ≡ kept_if r (sum_to (size_of_entry h pages t) 0)
size_none h pages t r = kept_zero r (sum_to (size_of_entry h pages t) 0) (sum_zero (size_of_entry h pages t))

-- ---- blocks

module _ (page : List ℕ) (r : Bool) where
  pub block_none : 0 ≡ kept_if r (bits_to page 0)
  block_none = kept_zero r (bits_to page 0) (bits_zero page)

  pub block_le : (b : ℕ) → kept_if r (bits_to (take 8 (drop (8 * b) page)) 512) ≤ 512
  block_le b = kept_le r (bits_to (take 8 (drop (8 * b) page)) 512) 512 (bits_le (take 8 (drop (8 * b) page)) 512)

  pub block_more : (b s k : ℕ) → s ≡ kept_if r (bits_to page (512 * b)) → k ≡ kept_if r (bits_to (take 8 (drop (8 * b) page)) 512) → s + k ≡ kept_if r (bits_to page (512 * (b + 1)))
  block_more b s k p q =
      let e : 64 * (8 * b) ≡ 512 * b = omega arith in
      let f : 64 * (8 * b) + 512 ≡ 512 * (b + 1) = omega arith in
      let g : bits_to page (512 * (b + 1)) ≡ bits_to page (512 * b) + bits_to (take 8 (drop (8 * b) page)) 512 = sym (ap (bits_to page) f) ∙ (bits_part (8 * b) 8 page 512 (omega arith) ∙ ap (λ (n : ℕ). bits_to page n + bits_to (take 8 (drop (8 * b) page)) 512) e) in
      ap₂ ◌+◌ p q ∙ (kept_add r (bits_to page (512 * b)) (bits_to (take 8 (drop (8 * b) page)) 512) ∙ ap (kept_if r) (sym g))

-- the counts of a page, n from a on, where they are right: the last one, read as m, and what the last block adds
module _ (page blocks : List ℕ) (a n : ℕ) (right : all_to (block_is page blocks true a) n ≡ true) where
  count_at : (b : ℕ) → b < n → get_or blocks (a + b) 0 ≡ bits_to page (512 * b)
  unfolding block_is
  count_at = (all_of (block_is page blocks true a) n (λ b l. eqb_of (get_or blocks (a + b) 0) (bits_to page (512 * b)))).sound right

  pub members_are : (m w k : ℕ) → 1 ≤ n → w ≡ m → m ≡ get_or blocks (a + (n - 1)) 0 → k ≡ kept_if true (bits_to (take 8 (drop (8 * (n - 1)) page)) 512) → w + k ≡ bits_to page (512 * n)
  members_are m w k s p q r =
      let e : 512 * (n - 1 + 1) ≡ 512 * n = omega arith in
      block_more page true (n - 1) w k (p ∙ q ∙ count_at (n - 1) (omega arith)) r ∙ ap (bits_to page) e

-- part p of n parts of w elements
pub part_inside : (p n w len : ℕ) → p < n → n * w ≤ len → p * w + w ≤ len
part_inside p n w len l h = let a : suc p * w ≤ n * w = mul-le-mul_right w (let s : suc p ≤ n = omega arith in s) in omega (arith, suc-mul p w)

-- page p, read as q, and its n counts from d on
module _ (h : Sizes) (pages blocks : List ℕ) (p : ℕ) {q : List ℕ} {d n : ℕ} (e : q ≡ page_part h pages p) (f : d ≡ p * blocks_of h) (g : n ≡ blocks_of h) where
  pub blocks_pass : (r : Bool) → all_to (block_is q blocks r d) n ≡ page_blocks h pages blocks r p
  unfolding page_blocks
  blocks_pass r =
      ap₂ (λ (page : List ℕ) (k : ℕ). all_to (block_is page blocks r k) n) e f ∙ ap (all_to (block_is (page_part h pages p) blocks r (p * blocks_of h))) g

  pub blocks_right : BlocksShown h pages blocks true → p < h.p → all_to (block_is q blocks true d) n ≡ true
  blocks_right s l = blocks_pass true ∙ (all_of (page_blocks h pages blocks true) h.p (λ k m. bool_of (page_blocks h pages blocks true k))).sound s.right p l

  module _ (i : InRange h) where
    pub blocks_room : p < h.p → h.p * wide h ≤ length pages → h.p * blocks_of h ≤ length blocks → (8 * n ≤ length q) × (d + n ≤ length blocks) × (1 ≤ n) × (n ≤ 65536)
    blocks_room l s t =
        let w = powers h.s i.s_low i.s_high in
        let m = part_inside p h.p (wide h) (length pages) l s in
        let o = part_inside p h.p (blocks_of h) (length blocks) l t in
        let k : length (page_part h pages p) ≡ wide h = simp (length-take, length-drop) (omega arith) in
        let j = ap length e in
        (omega arith, omega arith, omega arith, omega arith)

    pub members_pass : {k : ℕ} → k ≡ bits_to q (512 * n) → k ≡ bits_to (page_part h pages p) (top h)
    members_pass z = let m : 512 * n ≡ top h = omega (arith, powers h.s i.s_low i.s_high) in z ∙ ap₂ bits_to e m

-- Members of one chunk below an offset: by a search in its row, or by one block count and the words of one block. Assumes nothing.
use mathlib.Core.Path.{◌≡◌, refl, ap, ◌∙◌}
use mathlib.Core.List.{List}
use mathlib.Core.Bool.{true}
use Prim.Native.Nat.{ℕ, ◌+◌, ◌*◌, ◌/◌, ◌%◌, ◌<◌}
use native.Mathlib.Omega.{arith}
use lib.ListN.{take, drop}
use Rattle.sparse.proofs.Searches.{lower_rising}
use Rattle.dense.specs.Bits.{bits_to}
use Rattle.dense.proofs.Parts.{bits_part}
use Rattle.layout.specs.Mem.{Mem}
use Rattle.document.specs.Sizes.{top}
use Rattle.layout.specs.Sizes.{blocks_of, head}
use Rattle.layout.specs.Places.{row_part, page_part}
use Rattle.layout.specs.Meaning.{ranked}
use Rattle.layout.specs.Follows.{Owned, RowListed, Follows}
use Rattle.layout.specs.declared.place.Place.{Place}
use Rattle.layout.specs.declared.place.Place.TheVariants.{Absent, Sparse, Dense}
use Rattle.layout_laws.specs.Chunks as chunk
use Rattle.layout_laws.proofs.Sizes.{blocks_top}
use Rattle.layout_laws.proofs.Members.{listed_rising}
use Rattle.layout_laws.proofs.Ranks.{block_rank}
use Rattle.ranks.specs.Rank.{below_place}

-- below o: those before its block of eight words, and those within it
pub block_split : (ws : List ℕ) (o : ℕ) → bits_to ws (512 * (o / 512)) + bits_to (take 8 (drop (o / 512 * 8) ws)) (o % 512) ≡ bits_to ws o
block_split ws o =
    let e : 64 * (o / 512 * 8) ≡ 512 * (o / 512) = omega arith in
    let f : 64 * (o / 512 * 8) + o % 512 ≡ o = omega arith in
    let p = bits_part (o / 512 * 8) 8 ws (o % 512) (omega arith) in
    let q = ap (bits_to ws) e in
    let r = ap (bits_to ws) f in
    omega arith

module _ {x : Mem} (w : Follows x) (r : ranked x ≡ true) (o : ℕ) (l : o < top (head x)) where
  pub below_is : (c : ℕ) (p : Place) → Owned (head x) x.table c p → RowListed (head x) x.rows p → below_place x o p ≡ chunk.below_in (head x) x p o
  below_is c Absent u v = refl
  below_is c (Sparse i n) u v = lower_rising (row_part (head x) x.rows i) n (listed_rising (head x) (row_part (head x) x.rows i) n v) o
  below_is c (Dense p) u v =
      let b = blocks_top (head x) w.sizes in
      let n : o / 512 < blocks_of (head x) = omega arith in
      let block = bits_to (take 8 (drop (o / 512 * 8) (page_part (head x) x.pages p))) (o % 512) in
      ap (λ (k : ℕ). k + block) (block_rank w r p (o / 512) u.there n) ∙ block_split (page_part (head x) x.pages p) o

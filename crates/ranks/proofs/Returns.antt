-- Ranking and then leaving it gives back the same memory. Assumes nothing.
use mathlib.Core.Path.{◌≡◌, refl, sym, ap, ap₂, ◌∙◌}
use mathlib.Core.Logic.{◌≢◌}
use mathlib.Core.List.{List}
use mathlib.Core.Bool.{Bool, true, false, cond}
use Prim.Native.Nat.{ℕ, ◌+◌, ◌-◌, ◌*◌, ◌/◌, ◌%◌, ◌<◌}
use native.Mathlib.Nat.{mod-lt, div-add-mod', div-lt_iff_lt-mul}
use native.Mathlib.Omega.{arith}
use lib.ListN.{get_or}
use lib.Seq.{ext_get_or}
use lib.Pow.{pow_pos}
use lib.Dec.{ltb, eqb}
use borrow.Author.Tests.{ltb-true, ltb-false, eqb-true, eqb-false}
use Rattle.sums.specs.Sums.{sum_to}
use Rattle.layout.specs.Mem.{Mem, mem}
use Rattle.layout.specs.Sizes.{blocks_of, head, mode_at}
use Rattle.layout.specs.Entries.{entries, prefix_at, prefix_place}
use Rattle.layout.specs.Meaning.{ranked}
use Rattle.layout.specs.Follows.{members_at, when_ranked, Follows}
use Rattle.layout.specs.SetUp.{zeroed}
use Rattle.layout_laws.proofs.Keys.{Sought, found, missed, seek}
use Rattle.layout_laws.proofs.Walked.{laid_walked}
use Rattle.layout.proofs.Zeroed.{zeroed_at, zeroed_past, zeroed_length}
use Rattle.ranks.specs.Form.{prefixed, headed, blocked_to, to_ranked, to_open}
use Rattle.ranks.proofs.Prefixes.{Recounted, recounted, over_same}
use Rattle.ranks.proofs.Blocks.{blocks_length, blocks_past}
use Rattle.ranks.proofs.Forms.{entries_inside}

module _ {x : Mem} (w : Follows x) (o : ranked x ≡ false) where
  -- an open set keeps no counts
  not_kept : (n : ℕ) → when_ranked x n ≡ 0
  not_kept n = ap (λ (b : Bool). cond b n 0) o

  mode_open : mode_at x.table ≡ 0
  mode_open = let a = w.mode in let b = eqb-false (mode_at x.table) 1 o in omega arith

  -- ---- block counts

  abbrev size : ℕ
  size = (head x).p * blocks_of (head x)

  block_open : (i : ℕ) → i < size → get_or x.blocks i 0 ≡ 0
  block_open i l =
      ap (λ (k : ℕ). get_or x.blocks k 0) (sym (div-add-mod' i (blocks_of (head x))))
      ∙ (w.blocks (i / blocks_of (head x)) (i % blocks_of (head x)) ((div-lt_iff_lt-mul {k = blocks_of (head x)} {x = i} {y = (head x).p} (pow_pos ((head x).s - 9))).1 l) (mod-lt i (pow_pos ((head x).s - 9)))
      ∙ not_kept _)

  blocks_back : zeroed size (blocked_to (head x) x.pages x.blocks (head x).p) ≡ x.blocks
  blocks_back =
      let a = blocks_length (head x) x.pages x.blocks (head x).p in
      let r = w.room.in_blocks in
      ext_get_or 0 (zeroed size (blocked_to (head x) x.pages x.blocks (head x).p)) x.blocks
      (zeroed_length size (blocked_to (head x) x.pages x.blocks (head x).p) (omega arith) ∙ a)
      (λ i l. go i (ltb i size) refl)
    where
      go : (i : ℕ) (b : Bool) → ltb i size ≡ b → get_or (zeroed size (blocked_to (head x) x.pages x.blocks (head x).p)) i 0 ≡ get_or x.blocks i 0
      go i true e = let l = ltb-true i size e in zeroed_at size (blocked_to (head x) x.pages x.blocks (head x).p) i l ∙ sym (block_open i l)
      go i false e = let l = ltb-false i size e in zeroed_past size (blocked_to (head x) x.pages x.blocks (head x).p) i l ∙ blocks_past (head x) x.pages x.blocks (head x).p i l

  -- ---- the table

  module _ {u v : List ℕ} {k : ℕ} {f : ℕ → ℕ} (a : Recounted (head x) x.table u 1 k f) (b : Recounted (head x) u v 0 0 (λ (_ : ℕ). 0)) where
    same_entries : entries (head x) u ≡ entries (head x) x.table
    same_entries = ap (λ (n : ℕ). (head x).d + n) (over_same a)

    word_back : (i : ℕ) → get_or v i 0 ≡ get_or x.table i 0
    unfolding prefix_at
    word_back i = go (seek (prefix_place (head x)) (entries (head x) x.table) i)
      where
        at_prefix : (e : ℕ) → e < entries (head x) x.table → prefix_at (head x) v e ≡ prefix_at (head x) x.table e
        at_prefix e l = b.prefixes e (let n = same_entries in omega arith) ∙ sym (w.prefixes e l ∙ not_kept (sum_to (members_at (head x) x) e))

        off_prefix : ((e : ℕ) → e < entries (head x) x.table → prefix_place (head x) e ≢ i) → (s : Bool) → eqb i 6 ≡ s → (t : Bool) → eqb i 8 ≡ t → get_or v i 0 ≡ get_or x.table i 0
        off_prefix d true p t q = let e = eqb-true i 6 p in ap (λ (j : ℕ). get_or v j 0) e ∙ (b.mode ∙ sym (ap (λ (j : ℕ). get_or x.table j 0) e ∙ mode_open))
        off_prefix d false p true q =
            let e = eqb-true i 8 q in
            ap (λ (j : ℕ). get_or v j 0) e ∙ (b.total ∙ sym (ap (λ (j : ℕ). get_or x.table j 0) e ∙ (w.total ∙ not_kept (sum_to (members_at (head x) x) (entries (head x) x.table)))))
        off_prefix d false p false q =
            b.other i (eqb-false i 6 p) (eqb-false i 8 q) (λ e l. d e (let n = same_entries in omega arith)) ∙ a.other i (eqb-false i 6 p) (eqb-false i 8 q) d

        go : Sought (prefix_place (head x)) (entries (head x) x.table) i → get_or v i 0 ≡ get_or x.table i 0
        go (found e l q) = ap (λ (j : ℕ). get_or v j 0) (sym q) ∙ (at_prefix e l ∙ ap (λ (j : ℕ). get_or x.table j 0) q)
        go (missed d) = off_prefix d (eqb i 6) refl (eqb i 8) refl

    table_back : v ≡ x.table
    table_back = ext_get_or 0 v x.table (b.long ∙ a.long) (λ i l. word_back i)

  pub ranked_open : to_open (head x) (to_ranked (head x) x) ≡ x
  unfolding to_open to_ranked
  ranked_open =
      let f = sum_to (members_at (head x) x) in
      let n = entries (head x) x.table in
      let i = entries_inside (laid_walked w) in
      let a = recounted (head x) x.table f 1 (f n) i in
      let s = a.long in
      let c = over_same a in
      let b = recounted (head x) (headed (prefixed (head x) x.table f n) 1 (f n)) (λ (_ : ℕ). 0) 0 0 (omega arith) in
      ap₂ (λ (bl t : List ℕ). mem x.pages x.rows bl t) blocks_back (table_back a b)

-- The page's words, as a part of the pool. Assumes nothing.
use Prim.Native.Nat.{◌-◌}
use native.Mathlib.Omega.{arith}
use Rattle.numbers.proofs.Powers.{powers, scaled_most}
use Rattle.layout.specs.Sizes.{wide}
use Rattle.layout.proofs.Lent.{length_lent}
use Rattle.layout_laws.proofs.Sizes.{slot_inside}
use Rattle.rank_counts.proofs.Counting.{page_words, page_counted}
use Rattle.rank_counts.proofs.blocks.count_page.Goals as goal

pub count_words-requires : goal.count_words-requires
count_words-requires c =
    let a = c.args in
    let z = c.requires.0 in
    let q = powers a.h.s z.s_low z.s_high in
    let s = slot_inside a.p a.h.p (wide a.h) c.requires.1 in
    let l = length_lent a.pages.now c.page_at-a.result c.pow2.result (omega (arith, c.page_at-a.ensures, c.pow2.ensures)) in
    let k = scaled_most a.p (a.h.s - 9) (omega (arith, z.p_high)) (omega (arith, z.s_high)) in
    (omega (arith, q.block_words, c.pow2.ensures, c.pow2-n.ensures), omega (arith, q.most_blocks, c.pow2-n.ensures), omega (arith, c.block_at-k.ensures))

pub returns : goal.returns
returns c =
    let a = c.args in
    page_counted a.h a.pages.now a.blocks.now _ _ a.p _ _ (page_words a.h _ _ _ _ c.page_at-a.ensures c.pow2.ensures) c.block_at-k.ensures c.pow2-n.ensures
    c.count_words.ensures

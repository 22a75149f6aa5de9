-- The last count, and the last block. Assumes nothing.
use mathlib.Core.Path.{◌∙◌}
use native.Mathlib.Omega.{arith}
use Rattle.numbers.proofs.Powers.{powers}
use Rattle.layout.specs.Sizes.{wide}
use Rattle.layout.proofs.Lent.{length_lent}
use Rattle.layout_laws.proofs.Sizes.{slot_inside}
use Rattle.rank_counts.proofs.Counting.{page_words, page_total, told_small}
use Rattle.rank_counts.proofs.blocks.page_size.Goals as goal

pub block_at-requires-2 : goal.block_at-requires-2
block_at-requires-2 c =
    let a = c.args in
    let q = powers a.h.s c.requires.0.s_low c.requires.0.s_high in
    let s = slot_inside a.p a.h.p (wide a.h) c.requires.1 in
    let l = length_lent a.pages.now c.page_at-a.result c.pow2.result (omega (arith, c.page_at-a.ensures, c.pow2.ensures)) in
    omega (arith, q.block_words, q.some_blocks, c.pow2.ensures, c.pow2-last.ensures)

pub overflow_add-result : goal.overflow_add-result
overflow_add-result c =
    let a = c.args in
    omega (
      arith,
      told_small a.h c.requires.0 a.pages.now a.blocks.now _ _ c.requires.3 a.p _ _ _ _ c.requires.1 (page_words a.h _ _ _ _ c.page_at-a.ensures c.pow2.ensures)
          c.block_at.ensures c.pow2-last.ensures (c.from.ensures ∙ c.at.ensures) c.block_at-2.ensures c.block_count.ensures,
    )

pub returns : goal.returns
returns c =
    let a = c.args in
    page_total a.h c.requires.0 a.pages.now a.blocks.now _ _ c.requires.3 a.p _ _ _ _ c.requires.1 (page_words a.h _ _ _ _ c.page_at-a.ensures c.pow2.ensures)
    c.block_at.ensures c.pow2-last.ensures (c.from.ensures ∙ c.at.ensures) c.block_at-2.ensures c.block_count.ensures

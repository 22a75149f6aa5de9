-- Each slice is written by itself. Assumes nothing.
use Rattle.layout.specs.Mem.{mem}
use Rattle.layout_writes.proofs.Fills.{all_fresh}
use Rattle.layout_writes.proofs.setup.make_fresh.Goals as goal

pub returns : goal.returns
returns c =
    let a = c.args in
    all_fresh a.h (mem a.pages.now a.rows.now a.blocks.now a.table.now) _ _ _ _ _ _ _ c.requires.1 c.page_at.ensures c.row_at.ensures c.block_at.ensures
    (c.fill.ensures.after (λ y e. e)) (c.fill-2.ensures.after (λ y e. e)) (c.fill-3.ensures.after (λ y e. e)) c.fresh_table.ensures

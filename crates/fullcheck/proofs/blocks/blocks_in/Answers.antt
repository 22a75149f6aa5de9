-- Page p is a part of the pool of pages, and its counts a part of the block counts.
use Rattle.fullcheck.proofs.Running.{blocks_room}
use Rattle.fullcheck.proofs.blocks.blocks_in.Goals as goal

pub page_blocks-requires : goal.page_blocks-requires
page_blocks-requires c =
    let a = c.args in
    let p = c.requires in
    let r = blocks_room a.h a.pages.now a.blocks.now a.p c.part-page.ensures c.block_at.ensures c.pow2.ensures p.0 p.1 p.2 p.3 in
    (r.0, r.1, r.3)

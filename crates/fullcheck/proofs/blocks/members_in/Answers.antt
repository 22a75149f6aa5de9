-- The counts of page p are right, since those of all pages are.
use Rattle.fullcheck.proofs.Running.{blocks_right, blocks_room, members_pass}
use Rattle.fullcheck.proofs.blocks.members_in.Goals as goal

pub page_members-requires : goal.page_members-requires
page_members-requires c =
    let a = c.args in
    let p = c.requires in
    let e = c.part-page.ensures in
    let f = c.block_at.ensures in
    let r = blocks_room a.h a.pages.now a.blocks.now a.p e f c.pow2.ensures p.0 p.1 p.2.in_pages p.2.in_blocks in
    (r.0, r.1, r.2, r.3, blocks_right a.h a.pages.now a.blocks.now a.p e f c.pow2.ensures p.2 p.1)

pub returns : goal.returns
returns c =
    let a = c.args in members_pass a.h a.pages.now a.blocks.now a.p c.part-page.ensures c.block_at.ensures c.pow2.ensures c.requires.0 c.page_members.ensures

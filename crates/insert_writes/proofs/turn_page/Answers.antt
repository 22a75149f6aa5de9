-- The page as a part of the pool, the row as a part of its own. Assumes nothing.
use Prim.Native.Nat.{◌+◌, ◌≤◌}
use native.Mathlib.Omega.{arith}
use lib.ListN.{length}
use Rattle.numbers.proofs.Powers.{powers}
use Rattle.layout.specs.Sizes.{wide}
use Rattle.layout.proofs.Parts.{slot_in}
use Rattle.layout.proofs.Lent.{length_lent}
use Rattle.insert_writes.proofs.Acts.{turn_put}
use Rattle.insert_writes.proofs.turn_page.Goals as goal

pub fill-requires : goal.fill-requires
fill-requires c =
    let a = c.args in
    let i = c.requires.0 in
    let p = powers a.h.s i.s_low i.s_high in
    let e = c.pow2-n.ensures in
    let s : c.row_at-a.result + a.h.m ≤ length a.rows.now = omega (arith, c.row_at-a.ensures, slot_in a.h.m a.h.r a.r (length a.rows.now) c.requires.1 c.requires.3) in
    let t : c.page_at-b.result + c.pow2-n.result ≤ length a.pages.now = omega (arith, c.page_at-b.ensures, slot_in (wide a.h) a.h.p a.p (length a.pages.now) c.requires.2 c.requires.4) in
    let u = length_lent a.rows.now c.row_at-a.result a.h.m s in
    let v = length_lent a.pages.now c.page_at-b.result c.pow2-n.result t in
    (omega (arith, c.requires.5), omega (arith, i.s_high), omega (arith, p.words), omega (arith, p.words, c.requires.6))

pub returns : goal.returns
returns c =
    let a = c.args in
    turn_put a.pages.now a.rows.now a.h a.r a.p a.l a.o _ _ _ c.row_at-a.ensures c.page_at-b.ensures c.pow2-n.ensures _ c.fill.ensures

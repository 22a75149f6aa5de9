-- A chunk id that is no chunk's; a word of 0; else the ids of the chunk. Assumes nothing.
use mathlib.Core.Path.{refl, subst}
use Rattle.layout.specs.Mem.{mem}
use Rattle.iteration.specs.Turns.{Leaves}
use Rattle.iteration.proofs.Fills.{entry_bad, entry_none, entry_some}
use Rattle.iteration.proofs.listing.fill_entry.Goals as goal

pub returns-then-pow2-c : goal.returns-then-pow2-c
returns-then-pow2-c c =
    let a = c.args in
    (refl, entry_bad (mem a.pages.now a.rows.now a.blocks.now a.table.now) a.lo a.e a.out.now a.k _ _ c.chunk-c.ensures c.shift-s.ensures _ c.pow2.ensures c.if-pow2-c.true)

pub returns-then-w-eq0 : goal.returns-then-w-eq0
returns-then-w-eq0 c =
    let a = c.args in
    entry_none (mem a.pages.now a.rows.now a.blocks.now a.table.now) a.lo a.e a.out.now a.k _ _ c.chunk-c.ensures c.shift-s.ensures _ c.pow2.ensures c.if-pow2-c.false _ c.word_by-w.ensures c.if-w-eq0.true

pub returns : goal.returns
returns c =
    let a = c.args in
    subst (Leaves c.fill_chunk.result c.fill_chunk.new.out) (entry_some (mem a.pages.now a.rows.now a.blocks.now a.table.now) a.lo a.e a.out.now a.k _ _ c.chunk-c.ensures c.shift-s.ensures _ c.pow2.ensures c.if-pow2-c.false _ c.word_by-w.ensures) c.fill_chunk.ensures

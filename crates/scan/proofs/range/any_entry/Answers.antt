-- A word of 0 is no part; else by the part that the word names, between the offsets at which the chunk is clipped. Assumes nothing.
use mathlib.Core.Path.{◌∙◌}
use Rattle.layout.specs.Mem.{mem}
use Rattle.scan.proofs.Ranges.{entry_absent, entry_is}
use Rattle.scan.proofs.range.any_entry.Goals as goal

pub returns-then-w-eq0 : goal.returns-then-w-eq0
returns-then-w-eq0 c =
    let a = c.args in
    entry_absent (mem a.pages.now a.rows.now a.blocks.now a.table.now) a.lo a.hi a.e _ c.word_by-w.ensures c.if-w-eq0.true

pub returns : goal.returns
returns c =
    let a = c.args in
    c.any_at.ensures ∙ entry_is (mem a.pages.now a.rows.now a.blocks.now a.table.now) a.lo a.hi a.e _ c.word_by-w.ensures _ _ _ _ c.shift-s.ensures c.chunk-c.ensures c.low.ensures.0 c.high.ensures.0

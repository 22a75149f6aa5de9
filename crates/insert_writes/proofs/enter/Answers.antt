-- The row, put back, then the word. Assumes nothing.
use mathlib.Core.Path.{◌∙◌, ap}
use Rattle.layout.specs.Sizes.{header_at}
use Rattle.layout.specs.Writes.{put_word}
use Rattle.insert_writes.proofs.Acts.{enter_put}
use Rattle.insert_writes.proofs.enter.Goals as goal

pub returns : goal.returns
returns c =
    let a = c.args in
    (enter_put a.rows.now (header_at a.table.now) a.r a.l a.k a.o _ _ c.row_size-m.ensures c.times-a.ensures _ c.insert_at.ensures, c.set_word.ensures ∙ ap (put_word (header_at a.table.now) a.table.now a.c) c.row_word.ensures)

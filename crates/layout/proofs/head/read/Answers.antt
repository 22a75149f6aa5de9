-- Six elements of the table. Assumes nothing.
use Rattle.layout.proofs.Heads.{header_read}
use Rattle.layout.proofs.head.read.Goals as goal

pub returns : goal.returns
returns c =
    header_read c.args.table.now _ _ _ _ _ _ c.shift.ensures c.row_size.ensures c.direct.ensures c.overflow.ensures c.rows.ensures c.pages.ensures

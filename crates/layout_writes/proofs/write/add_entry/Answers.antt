-- The gap is opened by one copy upwards. Assumes nothing.
use Rattle.layout_writes.proofs.Gaps.{entry_added}
use Rattle.layout_writes.proofs.write.add_entry.Goals as goal

pub returns : goal.returns
returns c = let a = c.args in entry_added a.h a.table.now _ a.c a.w a.k c.requires.2 c.requires.3 c.copy_within.ensures.after

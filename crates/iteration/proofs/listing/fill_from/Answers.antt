-- The run from the first entry that may have an id of lo or more, into a blank record. Assumes nothing.
use mathlib.Core.Path.{subst}
use Rattle.layout.specs.Mem.{mem}
use Rattle.iteration.specs.Turns.{Leaves}
use Rattle.iteration.proofs.Fills.{from_is}
use Rattle.iteration.proofs.listing.fill_from.Goals as goal

pub returns : goal.returns
returns c =
    let a = c.args in
    subst (Leaves c.fill_run.result c.fill_run.new.out) (from_is (mem a.pages.now a.rows.now a.blocks.now a.table.now) a.lo _ _ a.out.now (c.first-e.ensures _ _ _) c.number-n.ensures.0 c.requires.1) c.fill_run.ensures

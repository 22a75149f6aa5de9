-- By what the entry says: every row and page that it names is there.
use Rattle.layout.specs.declared.place.Place.TheVariants.{Absent}
use Rattle.lists.proofs.Near.{entry_spot}
use Rattle.lists.proofs.spot.of_chunk.Goals as goal

pub returns-in-Absent : goal.returns-in-Absent
returns-in-Absent c = entry_spot c.requires.0 c.args.c c.requires.1 Absent c.in-Absent.ensures

pub returns-in-Sparse : goal.returns-in-Sparse
returns-in-Sparse c = rw c.row_at.ensures (entry_spot c.requires.0 c.args.c c.requires.1 _ c.in-Sparse.ensures)

pub returns-in-Dense : goal.returns-in-Dense
returns-in-Dense c = rw (c.page_at.ensures, c.pow2.ensures) (entry_spot c.requires.0 c.args.c c.requires.1 _ c.in-Dense.ensures)

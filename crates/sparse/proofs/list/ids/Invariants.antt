-- `sparse::list::ids` meets its contract. The loop keeps `Listing`: the offsets from place first + i on are left to write.
use Rattle.sparse.proofs.Listed.{Listing}
use Rattle.sparse.proofs.list.ids.Given as goal

abbrev pub invariant-loop-i : goal.invariant-loop-i
invariant-loop-i l = Listing l.row l.len l.from l.base l.s l.first l.initial.out l.k l.out l.i

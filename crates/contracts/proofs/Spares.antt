-- Document 01: elements past the sizes are never written, by any call, on any memory. Assumes nothing.
use Rattle.document.specs.Calls.{Call, insert, put, prepared, prepare, rank_up, leave}
use Rattle.layout.specs.Mem.{Mem}
use Rattle.layout.specs.Sizes.{head}
use Rattle.layout.specs.Spare.{Spare}
use Rattle.calls.proofs.InsertSpares.{insert_by_spare, prepared_by_spare}
use Rattle.calls.proofs.PrepareSpares.{prepare_by_spare}
use Rattle.ranks.proofs.Spares.{rank_up_by_spare, open_by_spare}
use Rattle.contracts.specs.Runs.{ran_by}

pub spare : (x : Mem) (c : Call) → Spare (head x) x (ran_by x c).after
spare x (insert z) = insert_by_spare x z
spare x (put z) = insert_by_spare x z
spare x (prepared z) = prepared_by_spare x z
spare x (prepare z) = prepare_by_spare x z
spare x rank_up = rank_up_by_spare x
spare x leave = open_by_spare x

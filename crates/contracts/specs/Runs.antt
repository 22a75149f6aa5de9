-- What each call answers and leaves on any memory: its model.
use Rattle.document.specs.Calls.{Call, insert, put, prepared, prepare, rank_up, leave, Said, whether, that}
use Rattle.document.specs.Insert.{done}
use Rattle.layout.specs.Mem.{Mem}
use Rattle.layout.specs.SetUp.{Did}
use Rattle.calls.specs.Insert.{Told, insert_by, prepared_by}
use Rattle.calls.specs.Prepare.{prepare_by}
use Rattle.ranks.specs.Form.{rank_up_by, open_by}

-- an answer, and memory after the call
pub record Ran : Type 0 where
  pub answer : Said
  pub after : Mem

abbrev pub ran : Said → Mem → Ran
ran a x = record { answer = a; after = x }

abbrev pub by_truth : Told → Ran
by_truth t = ran (whether t.answer) t.after

-- `set` drops the answer
abbrev pub by_done : Told → Ran
by_done t = ran (that (done t.answer)) t.after

abbrev pub by_outcome : Did → Ran
by_outcome d = ran (that d.answer) d.after

abbrev pub ran_by : Mem → Call → Ran
ran_by x (insert z) = by_truth (insert_by x z)
ran_by x (put z) = by_done (insert_by x z)
ran_by x (prepared z) = by_truth (prepared_by x z)
ran_by x (prepare z) = by_outcome (prepare_by x z)
ran_by x rank_up = by_outcome (rank_up_by x)
ran_by x leave = by_outcome (open_by x)

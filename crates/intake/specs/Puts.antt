-- Ids that are put into a set in turn: in memory, and in document 01's words.
use Rattle.std.specs.Prelude.{ℤ, Ok, Err}
use Rattle.document.specs.State.{State}
use Rattle.document.specs.Insert.{done, new_answer, inserted}
use Rattle.document.specs.declared.sizes.Sizes.{Sizes}
use Rattle.layout.specs.Mem.{Mem}
use Rattle.layout.specs.SetUp.{Did, sizes_of}
use Rattle.calls.specs.Insert.{insert_by}
use Rattle.program.specs.Turns.{Put}
use Rattle.program.specs.Reader.{begin, Fed, fed}
use Rattle.program.specs.declared.Input.{Input}
use Rattle.program.specs.declared.Input.TheVariants.{Stopped}
use Rattle.program.specs.declared.Fault.TheVariants.{Call}
use Rattle.document.specs.Results.{Outcome}

-- the program's sizes
abbrev pub sizes : Sizes
sizes = sizes_of 12 64 16 16 32 16

-- `set`, on any memory
abbrev pub put_by : Mem → ℤ → Put Mem
put_by x z = record { answer = done (insert_by x z).answer; after = (insert_by x z).after }

-- `set`, of document 01's set
abbrev pub put_in : State → ℤ → Put State
put_in q z = record { answer = done (new_answer q z); after = inserted q z (new_answer q z) }

-- set_up, then line 1; a refused set_up is the first fault
abbrev pub start_of : Outcome → Input
start_of (Ok tt) = begin
start_of (Err c) = Stopped (Call c)

abbrev pub started : Did → Fed Mem
started d = fed (start_of d.answer) d.after

-- What the program's input ends in, and what the program says: S and a plan, or the first fault.
use Rattle.std.specs.Prelude.{ℕ, Result}
use Rattle.document.specs.declared.plan.Plan.{Plan}
use Rattle.program.specs.declared.Fault.{Fault}

-- all of the input: S, or the first fault
abbrev pub Ended : Type 0
Ended = Result ℕ Fault

-- a plan, or the first fault
abbrev pub Said : Type 0
Said = Result Plan Fault

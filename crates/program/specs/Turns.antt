-- Lines are read and inserted in turn, and the first fault met decides. Said of anything that ids are put into: memory, a set, a list.
use Rattle.std.specs.Prelude.{List, [], ◌∷◌, ℕ, ℤ, Ok, Err}
use Rattle.program.specs.Input.{Read, whole, bad, read_plan}
use Rattle.document.specs.Results.{Outcome}
use Rattle.program.specs.Faults.{Ended}
use Rattle.program.specs.declared.Fault.TheVariants.{Line, Call}

-- what an insert answers, and what it leaves
pub record Put (X : Type 0) : Type 0 where
  pub answer : Outcome
  pub after : X

-- how the input ended, and what it leaves
pub record Run (X : Type 0) : Type 0 where
  pub ended : Ended
  pub left : X

abbrev pub run : {X : Type 0} → Ended → X → Run X
run e x = record { ended = e; left = x }

-- a refusal ends it; else the rest decides
abbrev pub or_rest : {X : Type 0} → Outcome → X → Run X → Run X
or_rest (Ok tt) y rest = rest
or_rest (Err c) y rest = run (Err (Call c)) y

module _ {X : Type 0} (put : X → ℤ → Put X) where
  -- ids in turn, then e
  unfoldable pub in_turn : X → List ℤ → Ended → Run X
  in_turn x [] e = run e x
  in_turn x (z ∷ zs) e = or_rest (put x z).answer (put x z).after (in_turn (put x z).after zs e)

  -- the ids before a bad line are inserted before it is met
  abbrev pub run_read : X → Read → Run X
  run_read x (whole s zs) = in_turn x zs (Ok s)
  run_read x (bad n zs) = in_turn x zs (Err (Line n))

  -- all of the input
  abbrev pub run_all : X → List ℕ → Run X
  run_all x bs = run_read x (read_plan bs)

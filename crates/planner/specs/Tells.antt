-- What the program says: on any memory, and in document 01's words for all of its input.
use Rattle.std.specs.Prelude.{◌≡◌, true, cond, List, ℕ, ◌-◌, ltb, ℤ, Ok, Err}
use Rattle.sums.specs.Ids.{total}
use Rattle.sums.specs.Cuts.{parts}
use Rattle.document.specs.State.{State, empty}
use Rattle.document.specs.Answers.{in_mode}
use Rattle.document.specs.Plan.{PlansFor}
use Rattle.document.specs.Refusals.{no_room}
use Rattle.layout.specs.Mem.{Mem}
use Rattle.layout.specs.SetUp.{Did, set_up_by}
use Rattle.ranks.specs.Form.{rank_up_by}
use Rattle.cuts.specs.Plan.{Cut, plan_by}
use Rattle.program.specs.Turns.{Run, run_all}
use Rattle.program.specs.Reader.{feed_parts, finished}
use Rattle.intake.specs.Puts.{sizes, put_by, put_in, started}
use Rattle.texts.specs.Text.{bad_text, refused_text, set_text}
use Rattle.document.specs.Results.{Outcome, Planning}
use Rattle.program.specs.Faults.{Ended, Said}
use Rattle.program.specs.declared.Fault.TheVariants.{Line, Call}

-- places for boundaries
abbrev pub room : ℕ
room = 256

-- the plan, or planning's refusal
abbrev pub say_plan : Planning → Said
say_plan (Ok p) = Ok p
say_plan (Err c) = Err (Call c)

-- ---- on any memory

-- what is said, memory and boundaries after it
pub record Spoken : Type 0 where
  pub says : Said
  pub left : Mem
  pub bounds : List ℤ

abbrev pub spoken : Said → Mem → List ℤ → Spoken
spoken r y cs = record { says = r; left = y; bounds = cs }

abbrev pub cut_said : Mem → Cut → Spoken
cut_said y k = spoken (say_plan k.answer) y k.bounds

-- planning for S after ranking, unless that is refused
abbrev pub ranked_said : Outcome → Mem → ℕ → List ℤ → Spoken
ranked_said (Ok tt) y s bs = cut_said y (plan_by y s bs)
ranked_said (Err c) y s bs = spoken (Err (Call c)) y bs

abbrev pub plan_said : Did → ℕ → List ℤ → Spoken
plan_said d s bs = ranked_said d.answer d.after s bs

abbrev pub end_said : Ended → Mem → List ℤ → Spoken
end_said (Ok s) x bs = plan_said (rank_up_by x) s bs
end_said (Err (Line n)) x bs = spoken (Err (Line n)) x bs
end_said (Err (Call c)) x bs = spoken (Err (Call c)) x bs

abbrev pub run_said : Run Mem → List ℤ → Spoken
run_said e bs = end_said e.ended e.left bs

-- the program on memory x: set_up, the parts of the input in turn, and the end
abbrev pub program_told : Mem → List (List ℕ) → List ℤ → Spoken
program_told x parts bs = run_said (finished put_by (feed_parts put_by (started (set_up_by sizes x)) parts)) bs

-- ---- in document 01's words

-- planning of the set q, once ranked, for S: it says r and takes boundaries bs to cs
pub record SaysPlan (q : State) (S : ℕ) (bs : List ℤ) (r : Said) (cs : List ℤ) : Type 0 where
  pub answer : Planning
  pub plans : PlansFor (in_mode q true) S bs answer cs
  pub said : r ≡ say_plan answer

-- planning comes last, and only where no fault was met before
abbrev pub EndSays : Ended → State → List ℤ → Said → List ℤ → Type 0
EndSays (Ok s) q bs r cs = SaysPlan q s bs r cs
EndSays (Err f) q bs r cs = (r ≡ Err f) × (cs ≡ bs)

-- the input goes, in turn, into an empty set of the program's sizes
abbrev pub program_run : List ℕ → Run State
program_run input = run_all put_in (empty sizes) input

-- the program on all of its input
abbrev pub ProgramSays : List ℕ → List ℤ → Said → List ℤ → Type 0
ProgramSays input bs r cs = EndSays (program_run input).ended (program_run input).left bs r cs

-- ---- the text for an input

-- planning is refused with 11 exactly when partitions less 1 exceeds the room
abbrev pub planned_text : State → ℕ → List ℕ
planned_text q S = cond (ltb room (parts (total q.members) S - 1)) (refused_text no_room) (set_text q.members S)

abbrev pub ended_text : Ended → State → List ℕ
ended_text (Ok s) q = planned_text q s
ended_text (Err (Line n)) q = bad_text n
ended_text (Err (Call c)) q = refused_text c

-- what the program has to write for all of its input
abbrev pub program_text : List ℕ → List ℕ
program_text input = ended_text (program_run input).ended (program_run input).left

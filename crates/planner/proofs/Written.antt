-- The program from its bytes to its text. Assumes nothing.
use mathlib.Core.Path.{◌≡◌, ◌∙◌, ap, subst}
use mathlib.Core.Bool.{Bool, true, false, cond}
use mathlib.Core.List.{List}
use Prim.Native.Nat.{ℕ, ◌-◌}
use lib.Dec.{ltb}
use lib.IntN.{ℤ}
use lib.ListN.{length}
use Rattle.sums.specs.Ids.{total}
use Rattle.sums.specs.Cuts.{parts}
use Rattle.document.specs.State.{State}
use Rattle.document.specs.Answers.{in_mode}
use Rattle.document.specs.Plan.{PlansFor, plan_of, plan_answer}
use Rattle.intervals.proofs.Intervals.{plans_bounded}
use Rattle.layout.specs.Mem.{Mem}
use Rattle.layout.specs.Sizes.{RoomIn}
use Rattle.program.specs.Reader.{together}
use Rattle.intake.specs.Puts.{sizes}
use Rattle.texts.specs.Text.{refused_text, set_text, said_text}
use Rattle.texts.proofs.Plans.{plan_text_law}
use Rattle.planner.specs.Tells.{room, say_plan, program_told, EndSays, program_run, ended_text, program_text}
use Rattle.planner.proofs.Whole.{program_says}
use Rattle.document.specs.Refusals.{no_room}
use Rattle.document.specs.Results.{Planning}
use Rattle.program.specs.Faults.{Ended, Said}
use Rattle.program.specs.declared.Fault.TheVariants.{Line, Call}
use Rattle.std.specs.Prelude.{Err, Ok}

module _ (bs : List ℤ) (full : length bs ≡ room) where
  -- what planning answers, by whether there is room
  answers : (q : State) (S : ℕ) {a : Planning} {cs : List ℤ} → PlansFor (in_mode q true) S bs a cs → a ≡ cond (ltb room (parts (total q.members) S - 1)) (Err no_room) (Ok (plan_of (total q.members) S))
  unfolding plan_answer
  answers q S {a} {cs} p =
      p.answer ∙ ap (λ (n : ℕ). cond (ltb n (parts (total q.members) S - 1)) (Err no_room) (Ok (plan_of (total q.members) S))) full

  plan_by : (q : State) (S : ℕ) (cs : List ℤ) (a : Planning) (b : Bool) → PlansFor (in_mode q true) S bs a cs → a ≡ cond b (Err no_room) (Ok (plan_of (total q.members) S)) → said_text (say_plan a) cs ≡ cond b (refused_text no_room) (set_text q.members S)
  plan_by q S cs a true p e = ap (λ (k : Planning). said_text (say_plan k) cs) e
  plan_by q S cs a false p e =
      ap (λ (k : Planning). said_text (say_plan k) cs) e
      ∙ plan_text_law q.members S cs (plans_bounded (subst (λ (k : Planning). PlansFor (in_mode q true) S bs k cs) e p))

  says_text : (e : Ended) (q : State) (r : Said) (cs : List ℤ) → EndSays e q bs r cs → said_text r cs ≡ ended_text e q
  says_text (Ok s) q r cs w =
      ap (λ (k : Said). said_text k cs) w.said
      ∙ plan_by q s cs w.answer (ltb room (parts (total q.members) s - 1)) w.plans (answers q s w.plans)
  says_text (Err (Line n)) q r cs w = ap (λ (k : Said). said_text k cs) w.0
  says_text (Err (Call c)) q r cs w = ap (λ (k : Said). said_text k cs) w.0

  -- in whatever memory, however the input is cut
  pub program_writes : (x : Mem) → RoomIn sizes x → (parts : List (List ℕ)) → said_text (program_told x parts bs).says (program_told x parts bs).bounds ≡ program_text (together parts)
  program_writes x h ps =
      let v = program_run (together ps) in
      let t = program_told x ps bs in
      says_text v.ended v.left t.says t.bounds (program_says x h ps bs)

-- The program from its bytes to what it says: whatever parts they come in, document 01's words. Assumes nothing.
use mathlib.Core.Path.{◌≡◌, refl, sym, ◌∙◌, ap, subst}
use mathlib.Core.Bool.{Bool, true, false, cond}
use mathlib.Core.List.{List}
use borrow.Author.Rules.{rules}
use Prim.Native.Nat.{ℕ}
use lib.IntN.{ℤ}
use Rattle.document.specs.State.{State, empty}
use Rattle.document.specs.Sizes.{InRange}
use Rattle.document.specs.Calls.{rank_up}
use Rattle.document.specs.Answers.{in_mode, rank_up_answer}
use Rattle.document.specs.Plan.{PlansFor}
use Rattle.layout.specs.Mem.{Mem}
use Rattle.layout.specs.Sizes.{RoomIn}
use Rattle.layout.specs.SetUp.{set_up_by}
use Rattle.ranks.specs.Form.{rank_up_by}
use Rattle.contracts.proofs.Steps.{does}
use Rattle.contracts.proofs.SetUps.{sets_up}
use Rattle.cuts.specs.Plan.{plan_by}
use Rattle.cuts.proofs.Plans.{plans_by}
use Rattle.program.specs.Turns.{Run, run_all}
use Rattle.program.specs.Reader.{together, fed, feed_parts, finished}
use Rattle.program.proofs.Inputs.{reads_parts}
use Rattle.intake.specs.Puts.{sizes, put_by, start_of, started}
use Rattle.intake.proofs.Turns.{Stands, outcome_is, input_stands, stays_open}
use Rattle.planner.specs.Tells.{ranked_said, plan_said, end_said, run_said, program_told, SaysPlan, EndSays, program_run, ProgramSays}
use Rattle.document.specs.Refusals.{is_ranked}
use Rattle.document.specs.Results.{Outcome}
use Rattle.program.specs.Faults.{Ended}
use Rattle.program.specs.declared.Fault.TheVariants.{Line, Call}
use Rattle.std.specs.Prelude.{Err, Ok}

-- ---- planning comes last

module _ (x : Mem) (q : State) (w : Stands x q) (o : q.mode ≡ false) (bs : List ℤ) where
  ranks : (rank_up_by x).answer ≡ Ok tt
  unfolding rank_up_answer
  ranks =
      outcome_is ((does x rank_up tt refl).says w.0).said
      ∙ ap rank_up_answer w.1
      ∙ ap (λ (b : Bool). cond b (Err is_ranked) (Ok tt)) o

  ranked : Stands (rank_up_by x).after (in_mode q true)
  ranked =
      let r = (does x rank_up tt refl).says w.0 in
      (r.follows, r.state ∙ ap (λ (p : State). in_mode p true) w.1)

  plan_says : (s : ℕ) → SaysPlan q s bs (plan_said (rank_up_by x) s bs).says (plan_said (rank_up_by x) s bs).bounds
  plan_says s =
      let y = (rank_up_by x).after in
      let p = plan_by y s bs in
      subst
      (λ (a : Outcome). SaysPlan q s bs (ranked_said a y s bs).says (ranked_said a y s bs).bounds)
      (sym ranks)
      (record {
        answer = p.answer;
        plans = subst (λ (k : State). PlansFor k s bs p.answer p.bounds) ranked.1 (plans_by s bs p.answer p.bounds refl ranked.0);
        said = refl;
      })

  end_says : (e : Ended) → EndSays e q bs (end_said e x bs).says (end_said e x bs).bounds
  end_says (Ok s) = plan_says s
  end_says (Err (Line n)) = (refl, refl)
  end_says (Err (Call c)) = (refl, refl)

-- ---- all of it

in_range : InRange sizes
in_range = search rules

module _ (x : Mem) (room : RoomIn sizes x) (parts : List (List ℕ)) (bs : List ℤ) where
  made : ((set_up_by sizes x).answer ≡ Ok tt) × Stands (set_up_by sizes x).after (empty sizes)
  made = let m = (sets_up sizes x refl).made in_range room in (m.0, (m.1, m.2))

  by_lines : finished put_by (feed_parts put_by (started (set_up_by sizes x)) parts) ≡ run_all put_by (set_up_by sizes x).after (together parts)
  by_lines =
      ap (λ (a : Outcome). finished put_by (feed_parts put_by (fed (start_of a) (set_up_by sizes x).after) parts)) made.0
      ∙ reads_parts put_by (set_up_by sizes x).after parts

  pub program_says : ProgramSays (together parts) bs (program_told x parts bs).says (program_told x parts bs).bounds
  program_says =
      let v = program_run (together parts) in
      let w = run_all put_by (set_up_by sizes x).after (together parts) in
      let same = input_stands (set_up_by sizes x).after (empty sizes) (together parts) made.1 in
      let spoken = end_says w.left v.left same.1 (stays_open (empty sizes) (together parts) refl) bs w.ended in
      subst
      (λ (r : Run Mem). EndSays v.ended v.left bs (run_said r bs).says (run_said r bs).bounds)
      (sym by_lines)
      (subst (λ (e : Ended). EndSays e v.left bs (run_said w bs).says (run_said w bs).bounds) same.0 spoken)

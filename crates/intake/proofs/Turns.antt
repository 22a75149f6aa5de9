-- Laws of ids put in turn: memory that follows the layout does as document 01's set, and that set has the ids before the first fault. Assumes nothing.
use mathlib.Core.Path.{◌≡◌, refl, ◌∙◌, ap, subst}
use mathlib.Core.Bool.{Bool, true, false, ◌||◌}
use mathlib.Core.List.{List, [], ◌∷◌}
use Prim.Native.Nat.{ℕ}
use lib.IntN.{ℤ}
use mir.Syntax.{w64}
use mir.Val.{SFits}
use Rattle.document.specs.State.{State}
use Rattle.document.specs.Calls.{put, that}
use Rattle.document.specs.Insert.{done, new_answer, inserted, is_id}
use Rattle.layout.specs.Mem.{Mem}
use Rattle.layout.specs.Meaning.{state_of}
use Rattle.layout.specs.Follows.{Follows}
use Rattle.contracts.proofs.Steps.{does}
use Rattle.program.specs.Turns.{or_rest, in_turn, run_all}
use Rattle.program.proofs.Same.{run_same, run_keeps}
use Rattle.intake.specs.Puts.{put_by, put_in}
use Rattle.intake.specs.Turned.{among, Turned}
use Rattle.document.specs.Results.{Outcome, Truth}
use Rattle.program.specs.Faults.{Ended}
use Rattle.std.specs.Prelude.{Err, Ok}

-- ---- memory and set

-- memory follows the layout and stands for the set
abbrev pub Stands : Mem → State → Type 0
Stands x q = Follows x × (state_of x ≡ q)

pub outcome_is : {a b : Outcome} → that a ≡ that b → a ≡ b
outcome_is {a} {b} e = cc

alike : (x : Mem) (q : State) (z : ℤ) → SFits w64 z → Stands x q → ((put_by x z).answer ≡ (put_in q z).answer) × Stands (put_by x z).after (put_in q z).after
alike x q z f w =
    let r = (does x (put z) f refl).says w.0 in
    subst
    (λ (p : State). ((put_by x z).answer ≡ (put_in p z).answer) × Stands (put_by x z).after (put_in p z).after)
    w.1
    (outcome_is r.said, (r.follows, r.state))

-- all of the input, in memory as in the set
pub input_stands : (x : Mem) (q : State) (input : List ℕ) → Stands x q → ((run_all put_by x input).ended ≡ (run_all put_in q input).ended) × Stands (run_all put_by x input).left (run_all put_in q input).left
input_stands x q input w = run_same put_by put_in Stands alike x q input w

-- ---- the mode stays

mode_stays : (q : State) (z : ℤ) (b : Bool) (a : Truth) → q.mode ≡ b → (inserted q z a).mode ≡ b
mode_stays q z b (Ok n) h = h
mode_stays q z b (Err c) h = h

pub stays_open : (q : State) (input : List ℕ) → q.mode ≡ false → (run_all put_in q input).left.mode ≡ false
stays_open q input h = run_keeps put_in (λ (p : State). p.mode ≡ false) (λ (p : State) (z : ℤ) (k : p.mode ≡ false). mode_stays p z false (new_answer p z) k) q input h

-- ---- the ids before the first fault

or_false : (b : Bool) → b ≡ (b || false)
or_false true = refl
or_false false = refl

or_assoc : (a b c : Bool) → ((a || b) || c) ≡ (a || (b || c))
or_assoc true b c = refl
or_assoc false b c = refl

module _ (q : State) (z : ℤ) (zs : List ℤ) (e : Ended) where
  turned_by : (a : Truth) → new_answer q z ≡ a → ((b : Bool) → Turned (inserted q z (Ok b)) zs e (in_turn put_in (inserted q z (Ok b)) zs e)) → Turned q (z ∷ zs) e (or_rest (done a) (inserted q z a) (in_turn put_in (inserted q z a) zs e))
  unfolding among
  turned_by (Ok b) h more =
      let t = more b in
      record {
        before = z ∷ t.before;
        rest = t.rest;
        split = ap (λ (l : List ℤ). z ∷ l) t.split;
        members = λ (n : ℕ). t.members n ∙ or_assoc (q.members n) (is_id z n) (among t.before n);
        decides = t.decides;
      }
  turned_by (Err c) h more =
      record { before = []; rest = z ∷ zs; split = refl; members = λ (n : ℕ). or_false (q.members n); decides = (c, h, refl) }

pub turned : (q : State) (zs : List ℤ) (e : Ended) → Turned q zs e (in_turn put_in q zs e)
unfolding in_turn among
turned q [] e = record { before = []; rest = []; split = refl; members = λ (n : ℕ). or_false (q.members n); decides = refl }
turned q (z ∷ zs) e = turned_by q z zs e (new_answer q z) refl (λ (b : Bool). turned (inserted q z (Ok b)) zs e)

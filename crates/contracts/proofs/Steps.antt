-- From a call's model to what its contract says, by the laws of the calls. Assumes nothing.
use mathlib.Core.Path.{◌≡◌, refl, sym, ap, subst, ◌∙◌, fun_ext}
use mathlib.Core.Bool.{Bool, true, false, cond}
use Prim.Native.Nat.{ℕ}
use lib.IntN.{ℤ}
use lib.Dec.{eqb}
use Rattle.sums.specs.Ids.{Ids}
use Rattle.document.specs.State.{Kind, State}
use Rattle.document.specs.Insert.{done, new_answer, prepared_answer, inserted}
use Rattle.document.specs.Prepare.{prepare_answer, readied}
use Rattle.document.specs.Calls.{Call, insert, put, prepared, prepare, rank_up, leave, Fitting, Said, whether, that}
use Rattle.document.specs.Answers.{in_mode, rank_up_answer, leave_answer}
use Rattle.document.specs.declared.sizes.Sizes.{Sizes}
use Rattle.layout.specs.Mem.{Mem}
use Rattle.layout.specs.Meaning.{ranked, state_of}
use Rattle.layout.specs.Follows.{Follows}
use Rattle.calls.proofs.Outcomes.{Inserts, Prepares}
use Rattle.calls.proofs.Inserting.{insert_says, prepared_says}
use Rattle.calls.proofs.Preparing.{prepare_says}
use Rattle.ranks.proofs.Turns.{Turns}
use Rattle.ranks.proofs.Forms.{rank_up_says, open_says}
use Rattle.contracts.specs.Runs.{Ran, ran, ran_by}
use Rattle.contracts.specs.Does.{Right, Does}
use Rattle.document.specs.Refusals.{is_open, is_ranked}
use Rattle.document.specs.Results.{Outcome, Truth}
use Rattle.std.specs.Prelude.{Err, Ok}
use Rattle.document.specs.declared.refusal.Refusal.{Refusal}

-- ---- states by their parts

abbrev state : Sizes → Bool → Ids → (ℕ → Kind) → State
state h b members map = record { sizes = h; mode = b; members = members; map = map }

pub same_state : {h k : Sizes} {a b : Bool} {P Q : Ids} {f g : ℕ → Kind} → h ≡ k → a ≡ b → P ≡ Q → f ≡ g → state h a P f ≡ state k b Q g
same_state p q r s = λ i. state (p i) (q i) (r i) (s i)

module _ {x y : Mem} where
  inserts_state : {z : ℤ} {a : Truth} (w : Truth) → Inserts x z w a y → state_of y ≡ inserted (state_of x) z w
  inserts_state (Ok b) i =
      same_state i.sizes (ap (λ (m : ℕ). eqb m 1) i.mode) (fun_ext (i.members b i.answer)) (fun_ext (i.map b i.answer))
  inserts_state (Err n) i = ap state_of (i.refused n i.answer)

  prepares_state : {z : ℤ} {a : Outcome} → Prepares x z a y → (w : Outcome) → a ≡ w → state_of y ≡ readied (state_of x) z w
  prepares_state p (Ok tt) e = same_state p.sizes (ap (λ (m : ℕ). eqb m 1) p.mode) (fun_ext p.members) (fun_ext (p.map e))
  prepares_state p (Err n) e = ap state_of (p.refused n e)

  -- a refusal to turn comes only where the mode is there already
  turns_state : {b : Bool} {a : Outcome} (w : Outcome) → Turns x w b a y → ((n : Refusal) → w ≡ Err n → ranked x ≡ b) → state_of y ≡ in_mode (state_of x) b
  turns_state (Ok tt) t r = same_state t.sizes (t.mode t.answer) (fun_ext t.members) (fun_ext t.map)
  turns_state (Err n) t r = ap state_of (t.refused n t.answer) ∙ same_state refl (r n refl) refl refl

-- ---- the model of one call

already_ranked : (b : Bool) (n : Refusal) → cond {A = Outcome} b (Err is_ranked) (Ok tt) ≡ Err n → b ≡ true
already_ranked true n e = refl
already_ranked false n e = absurd cc

already_open : (b : Bool) (n : Refusal) → cond {A = Outcome} b (Ok tt) (Err is_open) ≡ Err n → b ≡ false
already_open true n e = absurd cc
already_open false n e = refl

abbrev Good : Mem → Call → Ran → Type 0
Good x c r = Right x c r.answer r.after

model_right : {x : Mem} → Follows x → (c : Call) → Fitting c → Good x c (ran_by x c)
unfolding rank_up_answer leave_answer
model_right {x} w (insert z) f =
    let i = insert_says w z f in record { said = ap whether i.answer; follows = i.follows; state = inserts_state (new_answer (state_of x) z) i }
model_right {x} w (put z) f =
    let i = insert_says w z f in
    record { said = ap (λ (a : Truth). that (done a)) i.answer; follows = i.follows; state = inserts_state (new_answer (state_of x) z) i }
model_right {x} w (prepared z) f =
    let i = prepared_says w z f in record { said = ap whether i.answer; follows = i.follows; state = inserts_state (prepared_answer (state_of x) z) i }
model_right {x} w (prepare z) f =
    let p = prepare_says w z f in
    record { said = ap that p.answer; follows = p.follows; state = prepares_state p (prepare_answer (state_of x) z) p.answer }
model_right {x} w rank_up f =
    let t = rank_up_says w in
    record { said = ap that t.answer; follows = t.follows; state = turns_state (rank_up_answer (state_of x)) t (already_ranked (ranked x)) }
model_right {x} w leave f =
    let t = open_says w in
    record { said = ap that t.answer; follows = t.follows; state = turns_state (leave_answer (state_of x)) t (already_open (ranked x)) }

-- a call that meets its model does what document 01 says
pub does : (x : Mem) (c : Call) → Fitting c → {a : Said} {y : Mem} → ran a y ≡ ran_by x c → Does x c a y
does x c f e = record { by = e; says = λ w. subst (Good x c) (sym e) (model_right w c f) }

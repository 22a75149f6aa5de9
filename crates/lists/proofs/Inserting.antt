-- `insert_all` from the contracts of its single inserts: so far, and at the end. Assumes nothing.
use mathlib.Core.Path.{◌≡◌, ap, subst, ◌∙◌}
use mathlib.Core.List.{List}
use mathlib.Core.Bool.{Bool}
use Prim.Native.Nat.{ℕ, ◌+◌, ◌≤◌, ◌<◌}
use lib.IntN.{ℤ, pos}
use lib.ListN.{length, get_or}
use mir.Syntax.{w64}
use mir.Val.{bool_byte, SFits, of_z, to_z}
use mir.Facts.{to_z-of_z}
use Rattle.document.specs.Calls.{insert, whether}
use Rattle.document.specs.Insert.{new_answer}
use Rattle.layout.specs.Mem.{Mem}
use Rattle.layout.specs.Meaning.{state_of}
use Rattle.layout.specs.Follows.{Follows}
use Rattle.calls.proofs.Refusals.{insert_refused}
use Rattle.contracts.specs.Runs.{Ran}
use Rattle.contracts.specs.Does.{Does}
use Rattle.lists.specs.Inserts.{inserted_of, answer_by, after_by, after_of, InsertsAll}
use Rattle.lists.proofs.Turns.{Turned, turned_none, turned_next, turned_refused, turned_all}
use Rattle.document.specs.Refusals.{number}
use Rattle.document.specs.Results.{Truth}
use Rattle.std.specs.Prelude.{Err, Ok}
use Rattle.document.specs.declared.refusal.Refusal.{Refusal}

-- an id that is passed on comes back as the machine reads it
pub at_id : (x : Mem) (z : ℤ) → SFits w64 z → {a : Truth} {y : Mem} → Does x (insert (to_z w64 (of_z w64 z))) (whether a) y → Does x (insert z) (whether a) y
at_id x z f {a} {y} d = subst (λ (k : ℤ). Does x (insert k) (whether a) y) (to_z-of_z f) d

-- ---- one insert, by its contract

module _ {x y : Mem} {z : ℤ} {a : Truth} (d : Does x (insert z) (whether a) y) where
  told_answer : answer_by x z ≡ a
  told_answer = let e = ap (λ (r : Ran). r.answer) d.by in let h : answer_by x z ≡ a = cc in h

  told_after : y ≡ after_by x z
  told_after = ap (λ (r : Ran). r.after) d.by

  told_new : Follows x → new_answer (state_of x) z ≡ a
  told_new w = let e = (d.says w).said in let h : new_answer (state_of x) z ≡ a = cc in h

  told_state : Follows x → state_of y ≡ after_of (state_of x) z
  told_state w = (d.says w).state

  told_same : (n : Refusal) → a ≡ Err n → y ≡ x
  told_same n e = told_after ∙ insert_refused x z n (told_answer ∙ e)

-- ---- so far

-- from memory x the first i of ids are taken, f of them new, and led to memory y
pub record Sofar (x : Mem) (ids : List ℤ) (i f : ℕ) (y : Mem) : Type 0 where
  pub models : Turned answer_by after_by x ids i f y
  pub says : Follows x → Follows y × Turned new_answer after_of (state_of x) ids i f (state_of y)

pub sofar_none : (x : Mem) (ids : List ℤ) → Sofar x ids 0 0 x
sofar_none x ids = record { models = turned_none answer_by after_by x ids; says = λ w. (w, turned_none new_answer after_of (state_of x) ids) }

module _ (x : Mem) (ids : List ℤ) (i f : ℕ) (y : Mem) (s : Sofar x ids i f y) where
  module _ (l : i < length ids) (z : ℤ) (e : z ≡ get_or ids i (pos 0)) (u : Mem) where
    pub sofar_next : (r : Truth) (b : Bool) → Does y (insert z) (whether r) u → r ≡ Ok b → Sofar x ids (i + 1) (f + bool_byte b) u
    sofar_next r b d q = record {
      models = turned_next answer_by after_by x ids i f y s.models l z e b u (told_answer d ∙ q) (told_after d);
      says = λ w.
          let t = s.says w in (
            (d.says t.0).follows,
            turned_next new_answer after_of (state_of x) ids i f (state_of y) t.1 l z e b (state_of u) (told_new d t.0 ∙ q) (told_state d t.0),
          );
    }

    pub sofar_refused : (r : Truth) (n : Refusal) → Does y (insert z) (whether r) u → r ≡ Err n → InsertsAll x ids (inserted_of i f (number n)) u
    sofar_refused r n d q =
        let same = told_same d n q in record {
          said = turned_refused answer_by after_by x ids i f y s.models l z e n (told_answer d ∙ q);
          left = same ∙ s.models.led;
          says = λ w.
              let t = s.says w in record {
                follows = (d.says t.0).follows;
                said = turned_refused new_answer after_of (state_of x) ids i f (state_of y) t.1 l z e n (told_new d t.0 ∙ q);
                state = ap state_of same ∙ t.1.led;
              };
        }

  pub sofar_all : length ids ≤ i → InsertsAll x ids (inserted_of i f 0) y
  sofar_all l = record {
    said = turned_all answer_by after_by x ids i f y s.models l;
    left = s.models.led;
    says = λ w.
        let t = s.says w in
        record { follows = t.0; said = turned_all new_answer after_of (state_of x) ids i f (state_of y) t.1 l; state = t.1.led };
  }

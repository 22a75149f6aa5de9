-- `get` and `chunk_of`, by whether the table's s is allowed. Assumes nothing.
use mathlib.Core.Path.{◌≡◌, refl, sym, ◌∙◌, ap, subst}
use mathlib.Core.Bool.{Bool, true, false, cond, not}
use Prim.Native.Nat.{ℕ}
use lib.IntN.{ℤ}
use mir.Syntax.{w64}
use mir.Val.{SFits, of_z, to_z}
use Rattle.std.specs.Prelude.{Option, Some, None, Result, Ok, Err}
use Rattle.numbers.specs.Ids.{split_of, chunk_of}
use Rattle.numbers.proofs.Signs.{hop}
use Rattle.document.specs.Calls as document
use Rattle.document.specs.Refusals.{not_laid_out}
use Rattle.document.specs.Results.{Amount, Perhaps}
use Rattle.document.specs.declared.refusal.Refusal.{Refusal}
use Rattle.layout.specs.Mem.{Mem}
use Rattle.layout.specs.Sizes.{head}
use Rattle.calls.specs.Reading.{shift_ok, has_split, get_by, chunk_answer, chunk_of_by}
use Rattle.calls.proofs.Shifts.{Shift, shift}
use Rattle.contracts.specs.Does.{Answers}
use Rattle.contracts.proofs.Readings.{answers}

-- ---- what the table's s was found to be

abbrev found : Bool → ℕ → Amount
found b k = cond b (Ok k) (Err not_laid_out)

module _ {A : Type 0} (m : Result A Refusal) where
  refused_by : (b : Bool) (k : ℕ) (n : Refusal) → ◌≡◌ {A = Amount} (Err n) (found b k) → Err n ≡ cond b m (Err not_laid_out)
  refused_by true k n e = cc
  refused_by false k n e = cc

  found_by : (b : Bool) (k s : ℕ) → ◌≡◌ {A = Amount} (Ok s) (found b k) → (s ≡ k) × (m ≡ cond b m (Err not_laid_out))
  found_by true k s e = (cc, refl)
  found_by false k s e = cc

allowed_by : (b : Bool) (k s : ℕ) → ◌≡◌ {A = Amount} (Ok s) (found b k) → (s ≡ k) × (b ≡ true)
allowed_by true k s e = (cc, refl)
allowed_by false k s e = cc

module _ (x : Mem) (s : ℕ) (e : ◌≡◌ {A = Amount} (Ok s) (found (shift_ok x.table) (head x).s)) where
  pub shift_is : s ≡ (head x).s
  shift_is = (allowed_by (shift_ok x.table) (head x).s s e).0

  pub allowed : Shift s
  allowed =
      let a = allowed_by (shift_ok x.table) (head x).s s e in
      subst Shift (sym a.0) (shift (head x).s (ap not a.1))

-- ---- the calls

answered : (q : Option ℕ) → ◌≡◌ {A = Perhaps} (Ok q) (chunk_answer q)
answered (Some c) = refl
answered None = refl

module _ (x : Mem) (z : ℤ) where
  pub get_refused : (n : Refusal) → ◌≡◌ {A = Amount} (Err n) (found (shift_ok x.table) (head x).s) → Answers x (document.get z) (document.whether (Err n))
  unfolding get_by
  get_refused n e =
      answers x (document.get z) (ap document.whether (refused_by (has_split x (split_of (head x).s z)) (shift_ok x.table) (head x).s n e))

  pub chunk_refused : (n : Refusal) → ◌≡◌ {A = Amount} (Err n) (found (shift_ok x.table) (head x).s) → Answers x (document.chunk_id z) (document.maybe (Err n))
  unfolding chunk_of_by
  chunk_refused n e =
      answers x (document.chunk_id z) (ap document.maybe (refused_by (chunk_answer (chunk_of (head x).s z)) (shift_ok x.table) (head x).s n e))

  module _ (f : SFits w64 z) (s : ℕ) (e : ◌≡◌ {A = Amount} (Ok s) (found (shift_ok x.table) (head x).s)) where
    pub get_at : (q : Option (ℕ × ℕ)) → q ≡ split_of s (to_z w64 (of_z w64 z)) → Answers x (document.get z) (document.whether (has_split x q))
    unfolding get_by
    get_at q g =
        answers x (document.get z)
        (ap document.whether
        (ap (has_split x) (g ∙ (hop (split_of s) z f ∙ ap (λ (k : ℕ). split_of k z) (shift_is x s e)))
        ∙ (found_by (has_split x (split_of (head x).s z)) (shift_ok x.table) (head x).s s e).1))

    pub chunk_at : (q : Option ℕ) → q ≡ chunk_of s (to_z w64 (of_z w64 z)) → Answers x (document.chunk_id z) (document.maybe (Ok q))
    unfolding chunk_of_by
    chunk_at q g =
        answers x (document.chunk_id z)
        (ap document.maybe
        (answered q ∙ ap chunk_answer (g ∙ (hop (chunk_of s) z f ∙ ap (λ (k : ℕ). chunk_of k z) (shift_is x s e)))
        ∙ (found_by (chunk_answer (chunk_of (head x).s z)) (shift_ok x.table) (head x).s s e).1))

-- From the range test's model to its contract, and back. Assumes nothing.
use mathlib.Core.Path.{◌≡◌, refl, ap, ◌∙◌}
use mathlib.Core.Bool.{true, false}
use Prim.Native.Nat.{ℕ, ◌≤◌, ◌<◌}
use lib.IntN.{ℤ}
use mir.Syntax.{w64}
use mir.Val.{SFits, of_z, to_z}
use Rattle.std.specs.Prelude.{Some, None, Ok, Err}
use Rattle.numbers.specs.Ids.{natural_of}
use Rattle.numbers.proofs.Signs.{hop, of_at, of_negative}
use Rattle.document.specs.Calls as document
use Rattle.document.specs.Refusals.{not_laid_out}
use Rattle.document.specs.Results.{Truth}
use Rattle.layout.specs.Mem.{Mem}
use Rattle.calls.specs.Counts.{entries_ok}
use Rattle.calls.specs.Range.{any_from, any_by}
use Rattle.calls.specs.Iteration.{from_zero}
use Rattle.contracts.specs.Does.{Answers}
use Rattle.contracts.proofs.Readings.{answers}
use Rattle.scan.proofs.Ranges.{any_refused, any_below, any_empty, any_some}

module _ (x : Mem) (lo hi : ℤ) where
  pub any_in_range : {r : Truth} → r ≡ any_by x lo hi → Answers x (document.range_test lo hi) (document.whether r)
  any_in_range e = answers x (document.range_test lo hi) (ap document.whether e)

  pub any_by_law : (r : Truth) → Answers x (document.range_test lo hi) (document.whether r) → r ≡ any_by x lo hi
  any_by_law r a = let e = a.by in cc

  pub refused : entries_ok x.table ≡ false → Answers x (document.range_test lo hi) (document.whether (Err not_laid_out))
  refused h = any_in_range (any_refused x lo hi h)

  module _ (ok : entries_ok x.table ≡ true) (f : SFits w64 lo) (g : SFits w64 hi) where
    pub below : None ≡ natural_of (to_z w64 (of_z w64 hi)) → Answers x (document.range_test lo hi) (document.whether (Ok false))
    below e = any_in_range (of_negative hi g None e (λ (z : ℤ). Ok false ≡ any_by x lo z) refl (any_below x ok lo))

    module _ (l h : ℕ) (el : l ≡ from_zero (to_z w64 (of_z w64 lo))) (eh : Some h ≡ natural_of (to_z w64 (of_z w64 hi))) where
      pub none_between : h < l → Answers x (document.range_test lo hi) (document.whether (Ok false))
      none_between m = any_in_range (of_at hi g (Some h) eh (λ (z : ℤ). Ok false ≡ any_by x lo z) h refl (any_empty x ok lo l h (el ∙ hop from_zero lo f) m))

      pub between : l ≤ h → (r : Truth) → r ≡ any_from x l h → Answers x (document.range_test lo hi) (document.whether r)
      between m r e = any_in_range (of_at hi g (Some h) eh (λ (z : ℤ). r ≡ any_by x lo z) h refl (e ∙ any_some x ok lo l h (el ∙ hop from_zero lo f) m))

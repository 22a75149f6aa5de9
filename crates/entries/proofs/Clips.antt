-- What was read of a table says of its s. Assumes nothing.
use mathlib.Core.Path.{◌≡◌, ◌∙◌, ap, subst}
use mathlib.Core.List.{List}
use Prim.Native.Nat.{ℕ, ◌/◌, ◌^◌, ◌<◌}
use native.Mathlib.Omega.{arith}
use lib.ListN.{get_or}
use Rattle.entries.proofs.Runs.{Run}

-- ---- where s was read

module _ {s t : ℕ} (e : s ≡ t) where
  pub below_is : {a : ℕ} → a < 2 ^ s → a < 2 ^ t
  below_is {a} l = subst (λ (k : ℕ). a < 2 ^ k) e l

  pub quotient_is : (z : ℕ) {q : ℕ} → q ≡ z / 2 ^ s → q ≡ z / 2 ^ t
  quotient_is z f = f ∙ ap (λ (k : ℕ). z / 2 ^ k) e

pub shift_is : {t : List ℕ} {s : ℕ} → Run t → s ≡ get_or t 0 0 → s < 64
shift_is r e = omega (arith, r.high, e)

-- Laws of the step between i64 and u64. Assumes nothing.
use mathlib.Core.Path.{◌≡◌, sym, ◌∙◌, ap, subst}
use Prim.Native.Nat.{ℕ, ◌^◌, ◌<◌}
use lib.IntN.{ℤ, pos, negsuc}
use mir.Syntax.{w64}
use mir.Val.{SFits, of_z, to_z}
use mir.Facts.{to_z-of_z, to_z_pos}
use Rattle.numbers.specs.Ids.{natural_of}
use Rattle.std.specs.Prelude.{Option, Some, None}

-- a signed argument that is passed on comes back as the machine reads it
pub hop : {A : Type 0} (f : ℤ → A) (z : ℤ) → SFits w64 z → f (to_z w64 (of_z w64 z)) ≡ f z
hop f z h = ap f (to_z-of_z h)

-- what `signed` gives, handed back
pub signed_hop : (r : ℤ) (n : ℕ) → r ≡ pos n → n < 2 ^ 63 → to_z w64 (of_z w64 r) ≡ pos n
signed_hop r n e h = ap (λ (z : ℤ). to_z w64 (of_z w64 z)) e ∙ to_z_pos w64 h

-- ---- what a caller of `natural` knows: any statement on the id goes by its two answers

at_is : (z : ℤ) (n : ℕ) → Some n ≡ natural_of z → z ≡ pos n
at_is (pos m) n e = cc
at_is (negsuc m) n e = absurd cc

negative_is : (P : ℤ → Type 0) (z : ℤ) → None ≡ natural_of z → ((k : ℕ) → P (negsuc k)) → P z
negative_is P (pos m) e h = absurd cc
negative_is P (negsuc k) e h = h k

pub pos_below : (n : ℕ) → SFits w64 (pos n) → n < 2 ^ 63
pos_below n f = f.sfits

module _ (z : ℤ) (f : SFits w64 z) (r : Option ℕ) (e : r ≡ natural_of (to_z w64 (of_z w64 z))) where
  pub of_negative : (P : ℤ → Type 0) → r ≡ None → ((k : ℕ) → P (negsuc k)) → P z
  of_negative P q h = negative_is P z (sym q ∙ e ∙ hop natural_of z f) h

  id_is : (n : ℕ) → r ≡ Some n → z ≡ pos n
  id_is n q = at_is z n (sym q ∙ e ∙ hop natural_of z f)

  pub of_at : (P : ℤ → Type 0) (n : ℕ) → r ≡ Some n → P (pos n) → P z
  of_at P n q p = subst P (sym (id_is n q)) p

  pub at_below : (n : ℕ) → r ≡ Some n → n < 2 ^ 63
  at_below n q = pos_below n (rw (id_is n q) at f)

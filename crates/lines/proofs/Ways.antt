-- What a line says as an id fits an i64. Assumes nothing.
use mathlib.Core.Path.{◌≡◌, refl, subst}
use mathlib.Core.Bool.{Bool, true, false, cond, ◌&&◌}
use mathlib.Core.List.{List, [], ◌∷◌}
use Prim.Native.Nat.{ℕ, zero, suc, ◌^◌, ◌≤◌, ◌<◌}
use native.Mathlib.Omega.{arith}
use lib.Dec.{leb, ltb, eqb}
use lib.IntN.{ℤ, pos, neg_ℤ}
use lib.ListN.{length}
use mir.Syntax.{w64}
use mir.Val.{SFits}
use borrow.Author.Tests.{leb-true, ltb-true}
use Rattle.std.specs.Prelude.{Some, None}
use Rattle.sums.proofs.Rules.{both}
use Rattle.lines.specs.Line.{all_digits, value, positive, negative, id_line}

neg_fits : (v : ℕ) → v ≤ 2 ^ 63 → SFits w64 (neg_ℤ (pos v))
neg_fits zero h = record { sfits = omega arith }
neg_fits (suc n) h = record { sfits = omega arith }

said : (t : Bool) (v z : ℤ) → cond t (Some v) None ≡ Some z → (t ≡ true) × (v ≡ z)
said true v z e = (refl, cc)
said false v z e = absurd cc

-- the last of four tests
last_of : (p q r s : Bool) → (p && (q && (r && s))) ≡ true → s ≡ true
last_of p q r s h = (both r s (both q (r && s) (both p (q && (r && s)) h).1).1).1

plain_fits : (v : ℕ) → v < 2 ^ 63 → SFits w64 (pos v)
plain_fits v h = record { sfits = omega arith }

positive_fits : (bs : List ℕ) (z : ℤ) → positive bs ≡ Some z → SFits w64 z
unfolding positive
positive_fits bs z e =
    let p = said _ (pos (value bs)) z e in
    let h : value bs < 2 ^ 63 = ltb-true (value bs) (2 ^ 63) (last_of (all_digits bs) (leb 1 (length bs)) (leb (length bs) 19) (ltb (value bs) (2 ^ 63)) p.0) in
    subst (SFits w64) p.1 (plain_fits (value bs) h)

negative_fits : (bs : List ℕ) (z : ℤ) → negative bs ≡ Some z → SFits w64 z
unfolding negative
negative_fits bs z e =
    let p = said _ (neg_ℤ (pos (value bs))) z e in
    let h : value bs ≤ 2 ^ 63 = leb-true (value bs) (2 ^ 63) (last_of (all_digits bs) (leb 1 (length bs)) (leb (length bs) 19) (leb (value bs) (2 ^ 63)) p.0) in
    subst (SFits w64) p.1 (neg_fits (value bs) h)

either_fits : (t : Bool) (b : ℕ) (bs : List ℕ) (z : ℤ) → cond t (negative bs) (positive (b ∷ bs)) ≡ Some z → SFits w64 z
either_fits true b bs z e = negative_fits bs z e
either_fits false b bs z e = positive_fits (b ∷ bs) z e

pub id_fits_law : (bs : List ℕ) (z : ℤ) → id_line bs ≡ Some z → SFits w64 z
unfolding id_line
id_fits_law [] z e = absurd cc
id_fits_law (b ∷ bs) z e = either_fits (eqb b 45) b bs z e

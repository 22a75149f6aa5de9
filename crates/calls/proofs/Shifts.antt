-- The first header word: whether it is a size s of document 01, and where an id then lies. Assumes nothing.
use mathlib.Core.Path.{◌≡◌, sym, ◌∙◌, ap}
use mathlib.Core.Bool.{true, false, not, ◌&&◌}
use Prim.Native.Nat.{ℕ, ◌^◌, ◌≤◌, ◌<◌}
use native.Mathlib.Nat.{lt_of_lt_of_le}
use native.Mathlib.Omega.{arith}
use lib.Dec.{leb}
use lib.IntN.{ℤ}
use lib.ListN.{get_or}
use lib.Pow.{pow_mono}
use borrow.Author.Tests.{leb-true, not-true, not-false}
use mir.Syntax.{w64}
use mir.Val.{SFits, of_z, to_z}
use Rattle.numbers.specs.Ids.{split_of}
use Rattle.numbers.proofs.Signs.{hop}
use Rattle.numbers.proofs.Splits.{split_lies, lies_below}
use Rattle.sums.proofs.Rules.{both}
use Rattle.layout.specs.Mem.{Mem}
use Rattle.calls.specs.Reading.{shift_ok}
use Rattle.std.specs.Prelude.{Option, Some}

-- s is allowed
pub record Shift (s : ℕ) : Type 0 where
  pub low : 9 ≤ s
  pub high : s ≤ 25

pub shift : (s : ℕ) → not (leb 9 s && leb s 25) ≡ false → Shift s
shift s h =
    let g = both (leb 9 s) (leb s 25) (not-false _ h) in
    record { low = leb-true 9 s g.0; high = leb-true s 25 g.1 }

pub shift_64 : (s : ℕ) → Shift s → s < 64
shift_64 s h = omega arith

module _ (x : Mem) (s : ℕ) (e : s ≡ get_or x.table 0 0) where
  pub shift_no : not (leb 9 s && leb s 25) ≡ true → shift_ok x.table ≡ false
  shift_no h = ap (λ (n : ℕ). leb 9 n && leb n 25) (sym e) ∙ not-true _ h

  pub shift_yes : not (leb 9 s && leb s 25) ≡ false → shift_ok x.table ≡ true
  shift_yes h = ap (λ (n : ℕ). leb 9 n && leb n 25) (sym e) ∙ not-false _ h

-- what `split` answered, of the id itself
module _ (s : ℕ) (z : ℤ) (f : SFits w64 z) (r : Option (ℕ × ℕ)) (e : r ≡ split_of s (to_z w64 (of_z w64 z))) where
  pub split_is : (q : Option (ℕ × ℕ)) → r ≡ q → q ≡ split_of s z
  split_is q g = sym g ∙ (e ∙ hop (split_of s) z f)

  pub chunk_small : (c o : ℕ) → Shift s → r ≡ Some (c, o) → (c < 2 ^ 62) × (o < 2 ^ s)
  chunk_small c o h g =
      let l = split_lies s z c o (split_is (Some (c, o)) g) in
      let t = h.low in
      let u = h.high in
      (lt_of_lt_of_le (lies_below s z c o (omega arith) f l) (pow_mono {j = 62} (omega arith)), l.within)

-- What lets the entries be read, and entries that are passed over. Assumes nothing.
use mathlib.Core.Path.{◌≡◌, refl, ◌∙◌, ap}
use mathlib.Core.List.{List}
use mathlib.Core.Bool.{Bool, true, false}
use Prim.Native.Nat.{ℕ, ◌+◌, ◌-◌, ◌≤◌, ◌<◌}
use native.Mathlib.Omega.{arith}
use lib.Dec.{leb, ltb}
use lib.ListN.{length}
use borrow.Author.Tests.{leb-true, ltb-true, ltb-false}
use Rattle.sums.proofs.Rules.{both}
use Rattle.layout.specs.Sizes.{header_at, direct_at, over_count}
use Rattle.layout.specs.Short.{entries_in}
use Rattle.layout.proofs.Finds.{entries_are_in}
use Rattle.calls.specs.Reading.{shift_ok}
use Rattle.calls.specs.Counts.{entries_ok}

-- ---- sizes that let every entry be read

pub record Run (t : List ℕ) : Type 0 where
  pub low : 9 ≤ (header_at t).s
  pub high : (header_at t).s ≤ 25
  pub direct : (header_at t).d ≤ 262144
  pub over : over_count t ≤ 65536
  pub long : direct_at (header_at t).d ≤ length t

pub run : (t : List ℕ) → entries_ok t ≡ true → Run t
run t h =
    let a = both (shift_ok t) (entries_in t (header_at t).d) h in
    let d = both (leb 9 (header_at t).s) (leb (header_at t).s 25) a.0 in
    let k = entries_are_in t (header_at t).d a.1 in
    record {
      low = leb-true 9 (header_at t).s d.0;
      high = leb-true (header_at t).s 25 d.1;
      direct = k.direct;
      over = k.over;
      long = omega (arith, k.long);
    }

-- ---- entries that are passed over: those from e to i - 1 are absent, and so are the k from i on

pub passed_over : (f : ℕ → ℕ) (e i k : ℕ) → ((j : ℕ) → e ≤ j → j < i → f j ≡ 0) → ((j : ℕ) → j < k → f (i + j) ≡ 0) → (j : ℕ) → e ≤ j → j < i + k → f j ≡ 0
passed_over f e i k a b j l m = go (ltb j i) refl
  where
    go : (y : Bool) → ltb j i ≡ y → f j ≡ 0
    go true q = a j l (ltb-true j i q)
    go false q = let n = ltb-false j i q in let z : j ≡ i + (j - i) = omega arith in ap f z ∙ b (j - i) (omega arith)

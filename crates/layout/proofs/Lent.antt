-- A part of a slice as it is lent, from a up to a + n, and membership in one. Assumes nothing.
use mathlib.Core.Path.{◌≡◌, sym, ap, ◌∙◌}
use mathlib.Core.List.{List}
use mathlib.Core.Bool.{Bool}
use Prim.Native.Nat.{ℕ, ◌+◌, ◌-◌, ◌≤◌}
use native.Mathlib.Omega.{arith}
use lib.ListN.{length, take, drop, length-take, length-drop}
use Rattle.sparse.specs.Search.{found_in}
use Rattle.dense.specs.Bits.{is_set}
use Rattle.layout.specs.Part.{has_in}
use Rattle.layout.specs.Found.{Spotted}
use Rattle.layout.specs.declared.find.Spot.TheVariants.{Page, Row}
use Rattle.std.specs.Prelude.{Ok}

pub span : (a n : ℕ) → a + n - a ≡ n
span a n = omega arith

pub length_lent : (xs : List ℕ) (a n : ℕ) → a + n ≤ length xs → length (take (a + n - a) (drop a xs)) ≡ n
length_lent xs a n l = simp (length-take, length-drop) (omega arith)

-- ---- membership at a part

module _ (pages rows : List ℕ) (o : ℕ) (q : Spotted) where
  pub has_row : (a n l : ℕ) (b : Bool) → q ≡ Ok (Row a n l) → b ≡ found_in (take (a + n - a) (drop a rows)) l o → Ok b ≡ has_in pages rows o q
  has_row a n l b e f = ap Ok (f ∙ ap (λ (k : ℕ). found_in (take k (drop a rows)) l o) (span a n)) ∙ ap (has_in pages rows o) (sym e)

  pub has_page : (a n : ℕ) (b : Bool) → q ≡ Ok (Page a n) → b ≡ is_set (take (a + n - a) (drop a pages)) o → Ok b ≡ has_in pages rows o q
  has_page a n b e f = ap Ok (f ∙ ap (λ (k : ℕ). is_set (take k (drop a pages)) o) (span a n)) ∙ ap (has_in pages rows o) (sym e)

-- Rows as they are lent. Assumes nothing.
use mathlib.Core.Path.{◌≡◌, sym, ◌∙◌, ap₂}
use mathlib.Core.List.{List}
use Prim.Native.Nat.{ℕ, ◌+◌, ◌-◌, ◌*◌, ◌≤◌}
use lib.ListN.{take, drop}
use lib.Seq.{take-take}
use Rattle.document.specs.declared.sizes.Sizes.{Sizes}
use Rattle.layout.specs.Places.{row_part}
use Rattle.layout.proofs.Lent.{span}

-- l offsets of row r, which starts at a
pub row_lent : (h : Sizes) (rows : List ℕ) (r l a : ℕ) → l ≤ h.m → a ≡ r * h.m → take (a + l - a) (drop a rows) ≡ take l (row_part h rows r)
row_lent h rows r l a s e = ap₂ (λ (n i : ℕ). take n (drop i rows)) (span a l) e ∙ sym (take-take l h.m (drop (r * h.m) rows) s)

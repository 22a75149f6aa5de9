-- The contents of the four lent slices.
use Rattle.std.specs.Prelude.{ℕ, List}
use Rattle.std.specs.Borrow.{Bor}

pub record Mem : Type 0 where
  pub pages : List ℕ
  pub rows : List ℕ
  pub blocks : List ℕ
  pub table : List ℕ

abbrev pub mem : List ℕ → List ℕ → List ℕ → List ℕ → Mem
mem p r b t = record { pages = p; rows = r; blocks = b; table = t }

abbrev pub mem_of : Bor (List ℕ) → Bor (List ℕ) → Bor (List ℕ) → Bor (List ℕ) → Mem
mem_of p r b t = mem p.now r.now b.now t.now

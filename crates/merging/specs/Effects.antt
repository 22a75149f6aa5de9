-- What the turn of entry e of the source leaves, whatever it does not look at.
use Rattle.std.specs.Prelude.{◌≡◌, List, ℕ}
use Rattle.layout.specs.Mem.{Mem, mem}
use Rattle.unions.specs.Union.{standing, source, source_chunk, densely, sparsely}

abbrev pub densely_at : Mem → Mem → ℕ → Mem
densely_at x y e = densely x y (source_chunk y e) (standing x (source_chunk y e)) (source y e)

abbrev pub sparsely_at : Mem → Mem → ℕ → Mem
sparsely_at x y e = sparsely x y (source_chunk y e) (standing x (source_chunk y e)) (source y e)

abbrev pub DenseTurn : List ℕ → List ℕ → List ℕ → List ℕ → List ℕ → List ℕ → List ℕ → List ℕ → List ℕ → ℕ → Type 0
DenseTurn ps rs t ps' rs' t' sp sr st e = (b sb : List ℕ) → mem ps' rs' b t' ≡ densely_at (mem ps rs b t) (mem sp sr sb st) e

abbrev pub SparseTurn : List ℕ → List ℕ → List ℕ → List ℕ → List ℕ → List ℕ → ℕ → Type 0
SparseTurn rs t rs' t' sr st e = (p b sp sb : List ℕ) → mem p rs' b t' ≡ sparsely_at (mem p rs b t) (mem sp sr sb st) e

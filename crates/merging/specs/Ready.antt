-- What the passes and each of their turns ask for.
use Rattle.std.specs.Prelude.{◌≡◌, List, ℕ, ◌^◌, ◌≤◌, ◌<◌}
use Rattle.document.specs.declared.sizes.Sizes.{Sizes}
use Rattle.layout.specs.Mem.{mem}
use Rattle.layout.specs.Sizes.{header_at, over_count}
use Rattle.layout.specs.Entries.{chunk_at}
use Rattle.unions.specs.Joinable.{Joinable}

-- entry e of the source's table
pub record Entry (h g : Sizes) (t st : List ℕ) (e : ℕ) : Type 0 where
  pub header : h ≡ header_at t
  pub source : g ≡ header_at st
  pub over : over_count t ≤ 65536
  pub entry : e ≤ 327680
  pub chunk : chunk_at g st e < 2 ^ 62

-- the tests passed, beside some block counts; for rows alone, beside some pages too
abbrev pub Sound : List ℕ → List ℕ → List ℕ → List ℕ → List ℕ → List ℕ → Type 0
Sound pages rows t spages srows st = (b : List ℕ) × (b' : List ℕ) × Joinable (mem pages rows b t) (mem spages srows b' st)

abbrev pub RowsSound : List ℕ → List ℕ → List ℕ → List ℕ → Type 0
RowsSound rows t srows st = (p : List ℕ) × (p' : List ℕ) × (b : List ℕ) × (b' : List ℕ) × Joinable (mem p rows b t) (mem p' srows b' st)

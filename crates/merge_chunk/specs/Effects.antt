-- What a chunk's turn leaves, whatever it does not look at.
use Rattle.std.specs.Prelude.{◌≡◌, List, ℕ}
use Rattle.document.specs.declared.sizes.Sizes.{Sizes}
use Rattle.layout.specs.Mem.{mem}
use Rattle.layout.specs.Sizes.{header_at}
use Rattle.layout.specs.declared.place.Place.{Place}
use Rattle.layout.specs.declared.place.Place.TheVariants.{Absent, Sparse, Dense}
use Rattle.unions.specs.Union.{densely, sparsely}

-- the page that a chunk has, or takes: p is the lowest free one
abbrev pub page_or : Place → ℕ → ℕ
page_or Absent p = p
page_or (Sparse r l) p = p
page_or (Dense i) p = i

-- pages, rows and table of the destination, beside pages and rows of a source of sizes g
abbrev pub Densely : List ℕ → List ℕ → List ℕ → List ℕ → List ℕ → List ℕ → List ℕ → List ℕ → Sizes → ℕ → Place → Place → Type 0
Densely ps rs t ps' rs' t' sp sr g c o q =
    (b sb st : List ℕ) → g ≡ header_at st → mem ps' rs' b t' ≡ densely (mem ps rs b t) (mem sp sr sb st) c o q

-- rows and table of the destination, beside rows of the source
abbrev pub Sparsely : List ℕ → List ℕ → List ℕ → List ℕ → List ℕ → Sizes → ℕ → Place → Place → Type 0
Sparsely rs t rs' t' sr g c o q =
    (p b sp sb st : List ℕ) → g ≡ header_at st → mem p rs' b t' ≡ sparsely (mem p rs b t) (mem sp sr sb st) c o q

-- The counts that ranking writes: members by entry, and blocks that are told page by page.
use Rattle.std.specs.Prelude.{◌≡◌, ℕ, zero, suc, ◌+◌, ◌*◌, ◌≤◌, ◌<◌, List, get_or, set}
use Rattle.dense.specs.Bits.{bits_to}
use Rattle.layout.specs.Sizes.{blocks_of}
use Rattle.layout.specs.Places.{page_part}
use Rattle.layout.specs.Entries.{entries, place_at}
use Rattle.layout.specs.Follows.{size_of}
use Rattle.document.specs.declared.sizes.Sizes.{Sizes}
use Rattle.layout.specs.declared.place.Place.{Place}
use Rattle.layout.specs.declared.place.Place.TheVariants.{Absent, Sparse, Dense}

-- members of entry e
unfoldable pub entry_size : Sizes → List ℕ → List ℕ → ℕ → ℕ
entry_size h pages t e = size_of h pages (place_at h t e)

-- the counts of the first n blocks of a page's words, written from place k on
unfoldable pub counted : List ℕ → List ℕ → ℕ → ℕ → List ℕ
counted ws blocks k zero = blocks
counted ws blocks k (suc b) = set (counted ws blocks k b) (k + b) (bits_to ws (512 * b))

-- every block's count stands at its place
pub record BlocksCounted (h : Sizes) (pages blocks : List ℕ) : Type 0 where
  pub at : (p b : ℕ) → p < h.p → b < blocks_of h → get_or blocks (p * blocks_of h + b) 0 ≡ bits_to (page_part h pages p) (512 * b)

-- every entry's row or page is inside its pool
abbrev pub Inside : Sizes → Place → Type 0
Inside h Absent = Unit
Inside h (Sparse r l) = l ≤ h.m
Inside h (Dense p) = p < h.p

pub record Places (h : Sizes) (t : List ℕ) : Type 0 where
  pub at : (e : ℕ) → e < entries h t → Inside h (place_at h t e)

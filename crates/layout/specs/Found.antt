-- What a short test finds, or the refusal of memory where nothing can be found.
use Rattle.std.specs.Prelude.{ℕ, Result}
use Rattle.document.specs.declared.refusal.Refusal.{Refusal}
use Rattle.layout.specs.declared.find.Spot.{Spot}

-- a chunk's word, 0 where it is absent
abbrev pub Word : Type 0
Word = Result ℕ Refusal

-- a chunk's word, and the members of the chunks before it
abbrev pub Seat : Type 0
Seat = Result (ℕ × ℕ) Refusal

-- a part of a pool
abbrev pub Spotted : Type 0
Spotted = Result Spot Refusal

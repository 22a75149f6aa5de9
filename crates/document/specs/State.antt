-- What a set is: sizes, a mode, members, and a kind for each chunk id.
use Rattle.std.specs.Prelude.{ℕ, Bool, true, false}
use Rattle.sums.specs.Ids.{Ids}
use Rattle.document.specs.declared.sizes.Sizes.{Sizes}

pub data Kind : Type 0 where
  absent : Kind
  sparse : Kind
  dense : Kind

abbrev pub is_present : Kind → Bool
is_present absent = false
is_present sparse = true
is_present dense = true

abbrev pub is_sparse : Kind → Bool
is_sparse absent = false
is_sparse sparse = true
is_sparse dense = false

abbrev pub is_dense : Kind → Bool
is_dense absent = false
is_dense sparse = false
is_dense dense = true

-- the mode is true where the set is ranked
pub record State : Type 0 where
  pub sizes : Sizes
  pub mode : Bool
  pub members : Ids
  pub map : ℕ → Kind

-- an empty open set
abbrev pub empty : Sizes → State
empty h = record { sizes = h; mode = false; members = λ (_ : ℕ). false; map = λ (_ : ℕ). absent }

-- The ways that an insert goes: the short ones, into a dense chunk and to the end of a row, both with a direct entry, and the whole one.
use Rattle.std.specs.Prelude.{◌≡◌, List, Bool, true, false, ℕ, ◌+◌, ◌-◌, ◌≤◌, ◌<◌, ℤ, get_or, Option, Some, None, Ok}
use Rattle.layout.specs.Mem.{Mem}
use Rattle.calls.specs.Insert.{insert_plan, prepared_plan, acted, Told, told, insert_by, prepared_by}

-- an offset of a chunk: all that either insert does, or nothing
abbrev pub Into : Mem → ℕ → ℕ → Option Bool → Mem → Type 0
Into x c o (Some b) y = (told (Ok b) y ≡ acted x c o (insert_plan x c o)) × (told (Ok b) y ≡ acted x c o (prepared_plan x c o))
Into x c o None y = y ≡ x

-- an id: the same
abbrev pub Short : Mem → ℤ → Option Bool → Mem → Type 0
Short x z (Some b) y = (told (Ok b) y ≡ insert_by x z) × (told (Ok b) y ≡ prepared_by x z)
Short x z None y = y ≡ x

-- offset o comes behind the l members of a row with n places from a on
pub record Next (rows : List ℕ) (a n l o : ℕ) : Type 0 where
  pub some : 1 ≤ l
  pub room : l < n
  pub above : get_or rows (a + (l - 1)) 0 < o

-- at the end of a row: new, and all that the insert does, or nothing
abbrev pub Appends : Told → Mem → Bool → Mem → Type 0
Appends t x true y = told (Ok true) y ≡ t
Appends t x false y = y ≡ x

-- Document 01: the lowest free row or page is taken. Said over memory before and after a call.
use Rattle.std.specs.Prelude.{◌≡◌, ◌≢◌, ℕ, suc, ◌≤◌, ◌<◌}
use Rattle.layout.specs.Mem.{Mem}
use Rattle.layout.specs.Sizes.{head}
use Rattle.layout.specs.Places.{row_owner, page_owner}
use Rattle.layout.specs.Entries.{place_of}
use Rattle.layout.specs.Follows.{Follows}
use Rattle.layout.specs.declared.place.Place.{Place}
use Rattle.layout.specs.declared.place.Place.TheVariants.{Absent, Sparse, Dense}

-- of n slots, slot a is free and every lower one has an owner
pub record Lowest (owner : ℕ → ℕ) (n a : ℕ) : Type 0 where
  pub there : a < n
  pub free : owner a ≡ 0
  pub lower : (j : ℕ) → j < a → owner j ≢ 0

abbrev pub LowestRow : Mem → ℕ → Type 0
LowestRow x r = Lowest (row_owner (head x) x.table) (head x).r r

abbrev pub LowestPage : Mem → ℕ → Type 0
LowestPage x p = Lowest (page_owner (head x) x.table) (head x).p p

-- a chunk from one place to another: it keeps its row or page, and one that it did not have is the lowest free in x
abbrev pub Moves : Mem → Place → Place → Type 0
Moves x Absent Absent = Unit
Moves x Absent (Sparse r l) = LowestRow x r
Moves x Absent (Dense p) = LowestPage x p
Moves x (Sparse q k) Absent = Unit
Moves x (Sparse q k) (Sparse r l) = r ≡ q
Moves x (Sparse q k) (Dense p) = LowestPage x p
Moves x (Dense q) Absent = Unit
Moves x (Dense q) (Sparse r l) = LowestRow x r
Moves x (Dense q) (Dense p) = p ≡ q

-- where chunk c stands
abbrev pub place_in : Mem → ℕ → Place
place_in x c = place_of (head x) x.table c

-- from memory x to memory y, for every chunk
abbrev pub TakesLowest : Mem → Mem → Type 0
TakesLowest x y = (c : ℕ) → Moves x (place_in x c) (place_in y c)

-- chunks 0 to n - 1 have their turns in rising order: each takes the lowest that is free by then, and no other chunk moves
pub record TakesRising (x y : Mem) (n : ℕ) : Type 0 where
  -- memory after the turns of chunks 0 to k - 1
  pub up_to : ℕ → Mem
  pub first : up_to 0 ≡ x
  pub last : up_to n ≡ y
  pub follows : (k : ℕ) → k ≤ n → Follows (up_to k)
  pub takes : (k : ℕ) → k < n → TakesLowest (up_to k) (up_to (suc k))
  pub others : (k : ℕ) → k < n → (c : ℕ) → c ≢ k → place_in (up_to (suc k)) c ≡ place_in (up_to k) c

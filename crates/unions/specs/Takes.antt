-- Document 01: a call over several chunks first makes dense those that become dense, in rising chunk order, then takes rows for new sparse ones, in rising order.
use Rattle.std.specs.Prelude.{◌≡◌, ◌≢◌, ℕ}
use Rattle.document.specs.Sizes.{last_chunk}
use Rattle.document.specs.State.{sparse, dense}
use Rattle.layout.specs.Mem.{Mem}
use Rattle.layout.specs.Sizes.{head}
use Rattle.layout.specs.Meaning.{kinds}
use Rattle.layout.specs.Lowest.{place_in, TakesRising}

-- from memory x to memory y; in either pass every chunk id has its turn, and what it takes is the lowest that is free by then
pub record TakesDenseFirst (x y : Mem) : Type 0 where
  -- memory between the passes
  pub between : Mem
  pub first : TakesRising x between (last_chunk (head x))
  pub second : TakesRising between y (last_chunk (head x))
  -- the first moves those that become dense, and all of them
  pub made_dense : (c : ℕ) → place_in between c ≢ place_in x c → kinds between c ≡ dense
  pub all_dense : (c : ℕ) → kinds y c ≡ dense → place_in y c ≡ place_in between c
  -- the second moves sparse ones
  pub made_sparse : (c : ℕ) → place_in y c ≢ place_in between c → kinds y c ≡ sparse

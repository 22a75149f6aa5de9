-- Set-up: an empty open set, elements past the sizes as they were.
use Rattle.std.specs.Prelude.{ℕ, ◌*◌, ◌-◌, List, ◌∷◌, ◌++◌, cond, drop, replicate, Ok, Err}
use Rattle.layout.specs.Mem.{Mem, mem}
use Rattle.layout.specs.Sizes.{wide, blocks_of, table_size}
use Rattle.layout.specs.Tests.{in_range, room_in}
use Rattle.document.specs.Refusals.{outside_sizes, too_short}
use Rattle.document.specs.declared.sizes.Sizes.{Sizes}
use Rattle.document.specs.Results.{Outcome}

-- an answer, and memory after the call
pub record Did : Type 0 where
  pub answer : Outcome
  pub after : Mem

abbrev pub did : Outcome → Mem → Did
did a x = record { answer = a; after = x }

abbrev pub sizes_of : ℕ → ℕ → ℕ → ℕ → ℕ → ℕ → Sizes
sizes_of s m d v r p = record { s = s; m = m; d = d; v = v; r = r; p = p }

-- the first n elements 0
unfoldable pub zeroed : ℕ → List ℕ → List ℕ
zeroed n xs = replicate n 0 ++ drop n xs

unfoldable pub fresh_table : Sizes → List ℕ → List ℕ
fresh_table h t = (h.s ∷ h.m ∷ h.d ∷ h.v ∷ h.r ∷ h.p ∷ replicate (table_size h - 6) 0) ++ drop (table_size h) t

unfoldable pub fresh : Sizes → Mem → Mem
fresh h x = mem (zeroed (h.p * wide h) x.pages) (zeroed (h.r * h.m) x.rows) (zeroed (h.p * blocks_of h) x.blocks) (fresh_table h x.table)

-- refusal 1, then 2
unfoldable pub set_up_by : Sizes → Mem → Did
set_up_by h x = cond (in_range h) (cond (room_in h x) (did (Ok tt) (fresh h x)) (did (Err too_short) x)) (did (Err outside_sizes) x)

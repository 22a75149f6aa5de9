-- From k on the first free place is the one looked for. Assumes nothing.
use mathlib.Core.Path.{◌≡◌}
use Prim.Native.Nat.{ℕ, ◌+◌, ◌-◌}
use lib.ListN.{get_or}
use Rattle.layout.specs.Free.{first_free}
use Rattle.layout_walk.proofs.owners.first_free.Given as goal

abbrev pub invariant-loop-k : goal.invariant-loop-k
invariant-loop-k l = first_free (λ (j : ℕ). get_or l.table (l.a + j) 0) l.k (l.n - l.k) ≡ first_free (λ (j : ℕ). get_or l.table (l.a + j) 0) l.i (l.n - l.i)

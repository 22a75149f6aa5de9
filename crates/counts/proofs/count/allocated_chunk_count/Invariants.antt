-- The entries so far that have a word. Assumes nothing.
use Prim.Native.Nat.{◌-◌, ◌≤◌}
use mathlib.Core.Path.{◌≡◌}
use Rattle.layout.specs.Mem.{mem}
use Rattle.sums.specs.Ids.{count}
use Rattle.calls.specs.Counts.{used_at}
use Rattle.counts.proofs.count.allocated_chunk_count.Given as goal

abbrev pub invariant-loop-e : goal.invariant-loop-e
invariant-loop-e l = (l.e ≤ l.n) × (l.chunks ≡ count (used_at (mem l.pages l.rows l.blocks l.table)) l.e)

abbrev pub decreases-loop-e : goal.decreases-loop-e
decreases-loop-e l = l.n - l.e

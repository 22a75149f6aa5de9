-- The entries from e to i - 1 are absent: one more is, or eight. Assumes nothing.
use mathlib.Core.Path.{◌≡◌}
use Prim.Native.Nat.{ℕ, ◌-◌, ◌≤◌, ◌<◌}
use Rattle.layout.specs.Sizes.{header_at}
use Rattle.layout.specs.Entries.{word_at}
use Rattle.entries.proofs.next_used.Given as goal

abbrev pub invariant-loop-i : goal.invariant-loop-i
invariant-loop-i l = (l.e ≤ l.i) × (l.i ≤ l.n) × ((j : ℕ) → l.e ≤ j → j < l.i → word_at (header_at l.table) l.table j ≡ 0)

abbrev pub decreases-loop-i : goal.decreases-loop-i
decreases-loop-i l = l.n - l.i

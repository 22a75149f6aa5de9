-- Entries passed have no prefix. Assumes nothing.
use mathlib.Core.Path.{◌≡◌}
use Prim.Native.Nat.{ℕ}
use Rattle.ranks.specs.Form.{prefixed}
use Rattle.rank_counts.proofs.prefixes.clear_prefixes.Given as goal

abbrev pub invariant-loop-e : goal.invariant-loop-e
invariant-loop-e l = l.table ≡ prefixed l.h l.initial.table (λ (_ : ℕ). 0) l.e

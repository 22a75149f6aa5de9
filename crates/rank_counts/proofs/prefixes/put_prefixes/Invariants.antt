-- Entries passed have their prefixes, and the sum has their members. Assumes nothing.
use mathlib.Core.Path.{◌≡◌}
use Rattle.sums.specs.Sums.{sum_to}
use Rattle.ranks.specs.Form.{prefixed}
use Rattle.rank_counts.specs.Counts.{entry_size}
use Rattle.rank_counts.proofs.prefixes.put_prefixes.Given as goal

abbrev pub invariant-loop-e : goal.invariant-loop-e
invariant-loop-e l =
    (l.table ≡ prefixed l.h l.initial.table (sum_to (entry_size l.h l.pages l.initial.table)) l.e)
    × (l.sum ≡ sum_to (entry_size l.h l.pages l.initial.table) l.e)

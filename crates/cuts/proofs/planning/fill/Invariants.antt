-- Boundaries 1 to k stand in the first k places.
use mathlib.Core.Path.{◌≡◌}
use Rattle.layout.specs.Mem.{mem}
use Rattle.cuts.specs.Plan.{bounds_to}
use Rattle.cuts.proofs.planning.fill.Given as goal

abbrev pub invariant-loop-k : goal.invariant-loop-k
invariant-loop-k l = l.bounds ≡ bounds_to (mem l.pages l.rows l.blocks l.table) l.slots l.initial.bounds l.k

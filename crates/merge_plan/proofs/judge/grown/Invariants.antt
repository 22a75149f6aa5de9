-- The counts are those of the entries passed. Assumes nothing.
use mathlib.Core.Path.{◌≡◌}
use Rattle.layout.specs.Mem.{Mem}
use Rattle.merge_plan.specs.Judging.{OnAny, growth_to}
use Rattle.merge_plan.proofs.judge.grown.Given as goal

abbrev pub invariant-loop-e : goal.invariant-loop-e
invariant-loop-e l = OnAny l.rows l.table l.srows l.stable (λ (x y : Mem). l.k ≡ growth_to x y l.e)

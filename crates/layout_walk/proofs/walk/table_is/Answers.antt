-- All rules of the table together. Assumes nothing.
use mathlib.Core.Path.{refl}
use Rattle.layout.specs.Tests.{zeros, zero_at}
use Rattle.layout_walk.proofs.Passes.{table_seen}
use Rattle.layout_walk.proofs.walk.table_is.Goals as goal

pub returns : goal.returns
unfolding zeros zero_at
returns c =
    table_seen _ _ _ refl _ _ _ _ _ c.pass-p.ensures _ _ _ _ _
    c.all_are.ensures c.over_is.ensures
    c.owners_are.ensures c.ranks_rise.ensures c.froms_are.ensures

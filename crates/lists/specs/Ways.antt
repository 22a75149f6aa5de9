-- A set that passed the walk, and its header, read once.
use Rattle.std.specs.Prelude.{◌≡◌}
use Rattle.document.specs.declared.sizes.Sizes.{Sizes}
use Rattle.layout.specs.Mem.{Mem}
use Rattle.layout.specs.Sizes.{head}
use Rattle.layout.specs.Tests.{Walked}

pub record Judged (x : Mem) (h : Sizes) : Type 0 where
  pub walks : Walked x (head x)
  pub sizes : h ≡ head x

-- What the tests of union leave, on any two memories: both passed the walk, the destination is open, and the overflow entries of the union fit.
use Rattle.std.specs.Prelude.{◌≡◌, true, false, ◌≤◌}
use Rattle.document.specs.Union.{same_shape}
use Rattle.layout.specs.Mem.{Mem}
use Rattle.layout.specs.Sizes.{head}
use Rattle.layout.specs.Meaning.{ranked}
use Rattle.layout.specs.Tests.{Walked}
use Rattle.unions.specs.Union.{over_after}

pub record Joinable (x y : Mem) : Type 0 where
  pub here : Walked x (head x)
  pub there : Walked y (head y)
  pub mode : ranked x ≡ false
  pub shape : same_shape (head x) (head y) ≡ true
  pub over : over_after x y ≤ (head x).v

-- The elements of a run, as those of the whole. Assumes nothing.
use mathlib.Core.Path.{◌≡◌, ◌∙◌}
use mathlib.Core.List.{List}
use Prim.Native.Nat.{ℕ, ◌+◌, ◌-◌, ◌<◌}
use native.Mathlib.Omega.{arith}
use lib.ListN.{get_or, take, drop}
use lib.Seq.{get_or-drop}
use Rattle.std.proofs.lemmas.List.{get_or-take}

pub of_run : {A : Type 0} (t : List A) (a n i : ℕ) (d : A) → i < n → get_or (take (a + n - a) (drop a t)) i d ≡ get_or t (a + i) d
of_run t a n i d l = get_or-take (a + n - a) (drop a t) i d (omega arith) ∙ get_or-drop a t i d

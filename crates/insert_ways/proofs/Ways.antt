-- A word that a short way finds. Assumes nothing.
use mathlib.Core.Path.{◌≡◌, ap}
use Prim.Native.Nat.{ℕ}
use Rattle.std.specs.Result.{result_ok}
use Rattle.std.specs.Prelude.{Err, Ok, Some}
use Rattle.layout.specs.Found.{Word}

-- a word that was found
pub found : (r : Word) (w : ℕ) → Some w ≡ result_ok r → Ok w ≡ r
found (Ok v) w e = let f : w ≡ v = cc in ap Ok f
found (Err n) w e = absurd cc

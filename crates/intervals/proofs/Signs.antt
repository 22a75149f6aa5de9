-- Ends of intervals as the machine reads them: a signed number that is passed on or compared comes back from its bits. Assumes nothing.
use mathlib.Core.Path.{◌≡◌, ap₂}
use Prim.Native.Nat.{◌^◌, ◌<◌}
use lib.IntN.{ℤ}
use lib.Signed.{mag, le_z, lt_z}
use mir.Syntax.{w64}
use mir.Val.{of_z, to_z}
use mir.Facts.{to_z-of_z}

pub read : (z : ℤ) → mag z < 2 ^ 63 → to_z w64 (of_z w64 z) ≡ z
read z f = to_z-of_z {w = w64} (record { sfits = f })

pub le_read : (a b : ℤ) → mag a < 2 ^ 63 → mag b < 2 ^ 63 → le_z (to_z w64 (of_z w64 a)) (to_z w64 (of_z w64 b)) ≡ le_z a b
le_read a b f g = ap₂ le_z (read a f) (read b g)

pub lt_read : (a b : ℤ) → mag a < 2 ^ 63 → mag b < 2 ^ 63 → lt_z (to_z w64 (of_z w64 a)) (to_z w64 (of_z w64 b)) ≡ lt_z a b
lt_read a b f g = ap₂ lt_z (read a f) (read b g)

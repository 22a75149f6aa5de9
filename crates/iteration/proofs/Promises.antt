-- From iteration's model to its contract. Assumes nothing.
use mathlib.Core.Path.{◌≡◌, ap}
use lib.IntN.{ℤ}
use Rattle.document.specs.Calls as document
use Rattle.document.specs.declared.answer.Listing.{Listing}
use Rattle.layout.specs.Mem.{Mem}
use Rattle.calls.specs.Iteration.{iter_by}
use Rattle.contracts.specs.Does.{Answers}
use Rattle.contracts.proofs.Readings.{answers}

pub iterate : (x : Mem) (z : ℤ) {r : Listing} → r ≡ iter_by x z → Answers x (document.iterate z) (document.listed r)
iterate x z e = answers x (document.iterate z) (ap document.listed e)

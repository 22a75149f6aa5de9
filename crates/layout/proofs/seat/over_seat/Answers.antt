-- An entry, or past the last one the total. Assumes nothing.
use mathlib.Core.Path.{refl}
use Rattle.layout.proofs.Seats.{seat_past, seat_there}
use Rattle.layout.proofs.seat.over_seat.Goals as goal

pub returns-then-n-k : goal.returns-then-n-k
returns-then-n-k c = let a = c.args in
    seat_past a.table.now a.a a.n a.c a.k c.if-n-k.true _ c.total.ensures

pub returns : goal.returns
returns c = let a = c.args in
    seat_there a.table.now a.a a.n a.c a.k c.if-n-k.false _ _ c.over_word.ensures refl

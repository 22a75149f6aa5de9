-- Each test that fails, and the search past the direct entries where none does. Assumes nothing.
use Rattle.layout.proofs.Finds.{entries_direct, entries_over, entries_long, entries_fit, entries_all}
use Rattle.layout.proofs.Seats.{seat_none, seat_found}
use Rattle.layout.proofs.seat.overflow_seat.Goals as goal

pub returns-then-d-gt262144 : goal.returns-then-d-gt262144
returns-then-d-gt262144 c =
    let a = c.args in
    seat_none a.table.now a.d a.c (entries_direct a.table.now a.d _ c.over_count-n.ensures c.if-d-gt262144.true)

pub returns-then-n-gt65536 : goal.returns-then-n-gt65536
returns-then-n-gt65536 c =
    let a = c.args in
    seat_none a.table.now a.d a.c (entries_over a.table.now a.d _ c.over_count-n.ensures c.if-n-gt65536.true)

pub returns-then-table-a : goal.returns-then-table-a
returns-then-table-a c =
    let a = c.args in
    seat_none a.table.now a.d a.c (entries_long a.table.now a.d _ c.over_count-n.ensures c.if-table-a.true)

pub returns-then-overflow-n : goal.returns-then-overflow-n
returns-then-overflow-n c =
    let a = c.args in
    seat_none a.table.now a.d a.c
    (entries_fit a.table.now a.d _ c.over_count-n.ensures _ c.overflow.ensures c.if-overflow-n.true)

pub returns : goal.returns
returns c =
    let a = c.args in
    let n = c.over_count-n.ensures in
    seat_found a.table.now a.d a.c
    (entries_all a.table.now a.d _ n _ c.overflow.ensures c.if-d-gt262144.false c.if-n-gt65536.false c.if-table-a.false c.if-overflow-n.false)
    _ _ _ n c.over_place.ensures.0 c.over_seat.ensures

-- One look below D, a search past it. Assumes nothing.
use Rattle.layout.proofs.Seats.{in_overflow, in_table, past_table}
use Rattle.layout.proofs.seat.seat_of.Goals as goal

pub returns-then-d-c : goal.returns-then-d-c
returns-then-d-c c = let a = c.args in in_overflow a.table.now a.c _ c.direct-d.ensures c.if-d-c.true _ c.overflow_seat.ensures

pub returns-then-j-table : goal.returns-then-j-table
returns-then-j-table c = let a = c.args in in_table a.table.now a.c _ c.direct-d.ensures c.if-d-c.false c.if-j-table.true

pub returns : goal.returns
returns c = let a = c.args in past_table a.table.now a.c _ c.direct-d.ensures c.if-d-c.false c.if-j-table.false

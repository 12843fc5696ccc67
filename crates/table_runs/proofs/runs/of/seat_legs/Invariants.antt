use Rattle.std.proofs.Common.{◌≡◌}
use Rattle.table_runs.specs.inner.Seating.{HasSeats, TakeSeats, legs_below}
use Rattle.table_runs.proofs.runs.of.seat_legs.Given as goal

-- those before the index have their slots
abbrev pub invariant-loop-l : goal.invariant-loop-l
invariant-loop-l l =
    (l.rows.runs ≡ l.fn.rows.runs)
    × HasSeats l.slot l.rows.runs l.rows.bindings l.book
    × TakeSeats l.slot (legs_below l.fn.r l.fn.j l.l) l.fn.rows.runs l.fn.rows.bindings l.rows.bindings l.fn.book.entries l.book.entries

use Rattle.std.proofs.Common.{◌≡◌}
use Rattle.table_runs.specs.inner.Seating.{HasSeats, TakeSeats, runs_below}
use Rattle.table_runs.proofs.runs.of.seat_all.Given as goal

-- those before the index have their slots
abbrev pub invariant-loop-r : goal.invariant-loop-r
invariant-loop-r l =
    (l.rows.runs ≡ l.fn.rows.runs)
    × HasSeats l.slot l.rows.runs l.rows.bindings l.book
    × TakeSeats l.slot (runs_below l.r) l.fn.rows.runs l.fn.rows.bindings l.rows.bindings l.fn.book.entries l.book.entries

use Rattle.std.proofs.Common.{◌≡◌}
use Rattle.table_runs.specs.inner.Seating.{HasSeats, TakeSeats, jobs_below}
use Rattle.table_runs.proofs.runs.of.seat_jobs.Given as goal

-- those before the index have their slots
abbrev pub invariant-loop-j : goal.invariant-loop-j
invariant-loop-j l =
    (l.rows.runs ≡ l.fn.rows.runs)
    × HasSeats l.slot l.rows.runs l.rows.bindings l.book
    × TakeSeats l.slot (jobs_below l.fn.r l.j) l.fn.rows.runs l.fn.rows.bindings l.rows.bindings l.fn.book.entries l.book.entries

use Rattle.std.proofs.Common.{◌≡◌, ◌++◌, map, take}
use Rattle.std.specs.List.{filter}
use Rattle.table_views.specs.QueueLines.{is_ready_at, ready_row}
use Rattle.table_views.proofs.ready_legs.push_ready.Given as goal

-- the rows of the ready legs so far
abbrev pub invariant-loop-site : goal.invariant-loop-site
invariant-loop-site l =
    l.rows.items ≡ l.initial.rows.items ++ map (ready_row l.runs) (filter (is_ready_at l.runs) (take l.site-index l.sites))

use Rattle.std.proofs.Common.{◌≡◌, ◌<◌, ℕ}
use Rattle.needs_graph.specs.Needs.{needs_at}
use Rattle.table_model.specs.inner.Cells.{rooms, states}
use Rattle.table_model.specs.Runs.{results_so_far}
use Rattle.table_model.specs.inner.NeedsLeft.{needs_left_at, unfinished}
use Rattle.table_model.proofs.run.needs.count_needs.Given as goal

-- the jobs before `j` have counted their needs
abbrev pub invariant-loop-j : goal.invariant-loop-j
invariant-loop-j l =
    (states l.jobs.items ≡ states l.fn.jobs.items) × (rooms l.jobs.items ≡ rooms l.fn.jobs.items)
    × ((k : ℕ) → k < l.j → needs_left_at l.jobs.items k ≡ unfinished (results_so_far (states l.fn.jobs.items)) (needs_at l.graph k))

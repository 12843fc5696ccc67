use Rattle.std.proofs.Common.{◌≡◌, ◌-◌, ℕ, count_by, nat_eq, take}
use Rattle.table_model.specs.inner.Cells.{rooms, states}
use Rattle.table_model.specs.inner.NeedsLeft.{needs_left_at}
use Rattle.table_model.proofs.run.needs.lower_needs.Given as goal

-- each count is lowered by the number of times that the job is listed so far
abbrev pub invariant-loop-index : goal.invariant-loop-index
invariant-loop-index l =
    (states l.jobs.items ≡ states l.fn.jobs.items) × (rooms l.jobs.items ≡ rooms l.fn.jobs.items)
    × ((j : ℕ) → needs_left_at l.jobs.items j ≡ needs_left_at l.fn.jobs.items j - count_by (nat_eq j) (take l.index-index l.indexes))

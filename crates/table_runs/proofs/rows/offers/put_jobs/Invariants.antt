use Rattle.std.proofs.Common.{◌≡◌, ◌<◌, ℕ}
use Rattle.label_lists.specs.Lists.{may_offer}
use Rattle.table_bindings.specs.inner.LabelNumbers.{OnlyPuts}
use Rattle.table_bindings.specs.LabelNumbers.{list_number}
use Rattle.table_runs.proofs.rows.offers.put_jobs.Given as goal

-- the run is marked or unmarked for the legs of the jobs so far
abbrev pub invariant-loop-j : goal.invariant-loop-j
invariant-loop-j l =
    ((k i : ℕ) → k < l.j → may_offer l.lists (list_number l.numbers k i) l.r ≡ l.to) × OnlyPuts l.r l.to l.fn.lists l.lists

use Rattle.std.proofs.Common.{true}
use Rattle.table_model.specs.inner.Cells.{states}
use Rattle.table_bindings.specs.inner.LabelNumbers.{OnlyPuts}
use Rattle.table_runs.proofs.OffersList.{JobsOfferUpTo}
use Rattle.table_runs.proofs.rows.offers.offer_jobs.Given as goal

-- the run is marked for the lists of the ready legs of the jobs so far
abbrev pub invariant-loop-j : goal.invariant-loop-j
invariant-loop-j l = JobsOfferUpTo l.lists l.numbers l.r (states l.jobs) l.j × OnlyPuts l.r true l.fn.lists l.lists

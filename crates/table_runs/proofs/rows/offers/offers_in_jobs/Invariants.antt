use Rattle.table_model.specs.inner.Cells.{states}
use Rattle.table_bindings.specs.inner.LabelNumbers.{job_offers}
use Rattle.table_runs.proofs.OffersList.{NonePasses}
use Rattle.table_runs.proofs.rows.offers.offers_in_jobs.Given as goal

-- no job so far has a ready leg with the number
abbrev pub invariant-loop-j : goal.invariant-loop-j
invariant-loop-j l = NonePasses (job_offers l.numbers l.number) (states l.jobs) l.j

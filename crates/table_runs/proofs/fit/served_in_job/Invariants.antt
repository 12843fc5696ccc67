use Rattle.std.specs.Prelude.{◌≡◌}
use Rattle.std.specs.List.{AllByRecursion}
use Rattle.table_model.specs.inner.PlacedLegs.{PlacedLeg}
use Rattle.table_model.specs.inner.WithinRun.{served_in_job}
use Rattle.settling_laws.proofs.PlacedLegs.{IsInJob, first_passing}
use Rattle.table_runs.proofs.Sought.{serves}
use Rattle.table_runs.proofs.fit.served_in_job.Given as goal

-- the first that is served is still to come, and all that are to come are legs of the job
abbrev pub invariant-loop-site : goal.invariant-loop-site
invariant-loop-site l =
    (first_passing (serves l.labels l.runs) (λ p. p) l.site-iterator ≡ served_in_job l.labels l.runs l.r l.j l.job.state)
    × AllByRecursion (λ (x : PlacedLeg). IsInJob l.r l.j l.job.room x.site) l.site-iterator

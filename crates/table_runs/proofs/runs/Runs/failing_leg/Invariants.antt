use Rattle.std.specs.Prelude.{◌≡◌}
use Rattle.table_model.specs.Runs.{first_some, placed}
use Rattle.table_model.specs.inner.WithinRun.{failing}
use Rattle.table_runs.proofs.JobResult.{fails_at}
use Rattle.settling_laws.proofs.PlacedLegs.{first_passing}
use Rattle.table_runs.proofs.runs.Runs.failing_leg.Given as goal

-- the first that fails the job is still to come
abbrev pub invariant-loop-site : goal.invariant-loop-site
invariant-loop-site l = first_passing (fails_at l.self) (λ p. p.leg) l.site-iterator ≡ first_some (failing l.self l.r l.j) (placed l.legs)

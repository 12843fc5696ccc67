-- What each change does to a run, and which leg it makes ready.
use Rattle.std.specs.Prelude.{ℕ, true, Option, Some, None, if◌then◌else◌}
use Rattle.run_plan.specs.PlanOf.{plan_of}
use Rattle.table_model.specs.Runs.{changed_at, leg_site, RunState, opened, run_in_phase, finished_as}
use Rattle.table_model.specs.Fitting.{is_ready}
use Rattle.table_model.specs.declared.sites.LegSite.{LegSite}
use Rattle.table_model.specs.Settling.{legs_in_plan}
use Rattle.table_model.specs.Stops.{cancelled}
use Rattle.table_model.specs.declared.change.Change.{Change}
use Rattle.table_model.specs.declared.change.Change.TheVariants as change

abbrev pub changed : Change → RunState → RunState
changed (change.Phase phase) run = run_in_phase phase run
changed (change.Open j) run = record run { jobs = changed_at j (opened (legs_in_plan (plan_of run.admitted.body) j)) run.jobs }
changed (change.Settle j settled) run = record run { jobs = changed_at j (finished_as settled) run.jobs }
changed change.Cancel run = cancelled run
changed change.RequestStop run = record run { stopping = true }
changed (change.PutLeg j l leg) run =
    record run { jobs = changed_at j (λ job. record job { legs = changed_at l (λ _. leg) job.legs }) run.jobs }

-- the leg that the change of run `r` makes ready
abbrev pub offered_by : ℕ → Change → Option LegSite
offered_by r (change.Phase phase) = None
offered_by r (change.Open j) = None
offered_by r (change.Settle j settled) = None
offered_by r change.Cancel = None
offered_by r change.RequestStop = None
offered_by r (change.PutLeg j l leg) = if is_ready leg.phase then Some (leg_site r j l) else None

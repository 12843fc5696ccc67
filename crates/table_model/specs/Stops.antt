-- What stops and ends of legs do to runs, and which moves of groups they make.
use Rattle.std.specs.Prelude.{◌&&◌, ℕ, List, map, Bool, true, false, not, slice_get, if◌then◌else◌, [], ◌∷◌, flat_map}
use Rattle.std.specs.Option.{option_map_or}
use Rattle.wf_value.specs.declared.outcome.JobResult.TheVariants as result
use Rattle.wf_value.specs.declared.outcome.Outcome.{Outcome}
use Rattle.wf_value.specs.declared.outcome.Outcome.TheVariants as outcome
use Rattle.needs_graph.specs.Needs.{is_failure}
use Rattle.table_model.specs.Runs.{changed_at, placed, plan_at, with_job, with_leg, job_at, leg_at, leg_site, run_at, with_run}
use Rattle.table_model.specs.Fitting.{is_lease_stopping, site_of_lease}
use Rattle.table_model.specs.declared.sites.LegSite.{LegSite}
use Rattle.table_model.specs.LegContext.{may_run_in, continues_on_error}
use Rattle.table_model.specs.Runs.{LegState, JobState, RunState, is_open, leg_in_phase, finished_as}
use Rattle.table_model.specs.declared.phases.LegPhase.{LegPhase}
use Rattle.table_model.specs.declared.phases.LegPhase.TheVariants as leg
use Rattle.table_model.specs.declared.phases.RunPhase.{RunPhase}
use Rattle.table_model.specs.declared.phases.RunPhase.TheVariants as run
use Rattle.wf_value.specs.declared.outcome.Outcome.TheVariants.{Cancelled}
use Rattle.table_model.specs.GroupLaw.{Move, Transition}
use Rattle.table_model.specs.declared.holder.Holder.{Holder}
use Rattle.table_model.specs.declared.holder.Holder.TheVariants.{Run, Leg}

-- ---- the effect of a stop on legs and on runs, and which end of a leg stops the others of its job. GitHub Docs, "Workflow syntax for GitHub
-- Actions", jobs.<job_id>.strategy.fail-fast; "Canceling a workflow". This project defines two points: a leg that is asked to stop ends
-- with what its runner reports, and the leg of a lost runner ends as a failure while its run goes on.

-- ---- a leg is stopped

-- a leg that no runner has ends as cancelled, and a leg that runs is asked to stop
abbrev pub stopped_phase : LegPhase → LegPhase
stopped_phase leg.New = leg.Ended outcome.Cancelled
stopped_phase leg.Waiting = leg.Ended outcome.Cancelled
stopped_phase leg.Ready = leg.Ended outcome.Cancelled
stopped_phase leg.Running = leg.Stopping
stopped_phase leg.Stopping = leg.Stopping
stopped_phase (leg.Ended r) = leg.Ended r

abbrev pub stopped : LegState → LegState
stopped l = leg_in_phase (stopped_phase l.phase) l

-- all legs of a job
abbrev pub with_stopped_legs : JobState → JobState
with_stopped_legs job = record job { legs = map stopped job.legs }

-- ---- a run is stopped

abbrev pub is_open_at : RunState → ℕ → Bool
is_open_at run j = option_map_or (λ job. is_open job.phase) (slice_get run.jobs j) false

-- the legs of a job are stopped if it is open and its condition is false
abbrev pub stopped_where : Bool → JobState → JobState
stopped_where false_now job = if is_open job.phase && false_now then with_stopped_legs job else job

-- the legs of all open jobs whose conditions are false
abbrev pub with_jobs_stopped : RunState → RunState
with_jobs_stopped run = record run { jobs = map (λ j. stopped_where (not (may_run_in run j.0)) j.1) (placed run.jobs) }

-- a live run is asked to stop, and those legs are stopped
abbrev pub with_stop_requested : RunState → RunState
with_stop_requested run = with_jobs_stopped (record run { stopping = true })

-- the legs of job `j` are stopped if it is open and its condition is false
abbrev pub with_job_stopped : ℕ → RunState → RunState
with_job_stopped j run = record run { jobs = changed_at j (stopped_where (not (may_run_in run j))) run.jobs }

-- a waiting run ends, and all its jobs finish as cancelled
abbrev pub cancelled : RunState → RunState
cancelled r = record r { phase = run.Ended; jobs = map (finished_as result.Cancelled) r.jobs }

-- a run that is already stopping, or has ended, stays as it is
abbrev pub stopped_in : RunPhase → RunState → RunState
stopped_in run.Waiting r = cancelled r
stopped_in run.Live r = if r.stopping then r else with_stop_requested r
stopped_in run.Ended r = r

abbrev pub stopped_run : RunState → RunState
stopped_run run = stopped_in run.phase run

-- ---- a leg ends

-- whether the other legs of the job are stopped once one has failed
abbrev pub fails_fast : List RunState → ℕ → ℕ → Bool
fails_fast runs r j = option_map_or (λ planned. planned.fail_fast) (plan_at runs r j) false

-- a failure stops the other legs of its job if the job fails fast and the leg does not continue on error
abbrev pub stops_others : List RunState → LegSite → Outcome → Bool
stops_others runs p outcome = is_failure outcome && (fails_fast runs p.run p.job && not (continues_on_error runs p))

-- the runs after the leg has ended, and after the other legs of its job are stopped, if its end stops them
abbrev pub after_end : LegSite → Outcome → List RunState → List RunState
after_end p outcome runs =
    let ended = with_leg p (leg_in_phase (leg.Ended outcome)) runs in
    if stops_others runs p outcome then with_job p.run p.job with_stopped_legs ended else ended

-- ---- a runner is lost

-- its leg ends as a failure, or as cancelled if it was asked to stop
abbrev pub outcome_of_loss : List RunState → ℕ → Outcome
outcome_of_loss runs lease = if is_lease_stopping runs lease then outcome.Cancelled else outcome.Failure

-- ---- the moves of groups that stops and ends make. GitHub Docs, "Control the concurrency of workflows and jobs"; "Canceling a workflow";
-- "Workflow syntax for GitHub Actions", jobs.<job_id>.strategy.fail-fast. A holder has a stop move when it is first asked to stop, and this
-- move comes before the end that it causes. A leg that has not arrived makes no move.

-- ---- legs are stopped

-- a leg that waits or is ready ends; a leg that is already asked to stop makes no second move
abbrev pub leg_stop_moves : LegSite → LegPhase → List Move
leg_stop_moves p leg.New = []
leg_stop_moves p leg.Waiting = Move.stop (Leg p) ∷ Move.end_with Cancelled (Leg p) ∷ []
leg_stop_moves p leg.Ready = Move.stop (Leg p) ∷ Move.end_with Cancelled (Leg p) ∷ []
leg_stop_moves p leg.Running = Move.stop (Leg p) ∷ []
leg_stop_moves p leg.Stopping = []
leg_stop_moves p (leg.Ended r) = []

-- all legs of a job
abbrev pub legs_stop_moves : ℕ → ℕ → List LegState → List Move
legs_stop_moves r j legs = flat_map (λ l. leg_stop_moves (leg_site r j l.0) l.1.phase) (placed legs)

-- ---- a run is stopped

-- the legs of a job that is open and whose condition is false
abbrev pub where_stop_moves : Bool → ℕ → ℕ → JobState → List Move
where_stop_moves false_now r j job = if is_open job.phase && false_now then legs_stop_moves r j job.legs else []

-- the legs of all open jobs whose conditions are false
abbrev pub jobs_stop_moves : ℕ → RunState → List Move
jobs_stop_moves r run = flat_map (λ j. where_stop_moves (not (may_run_in run j.0)) r j.0 j.1) (placed run.jobs)

-- a live run is asked to stop
abbrev pub stop_request_moves : ℕ → RunState → List Move
stop_request_moves r run = Move.stop (Run r) ∷ jobs_stop_moves r (record run { stopping = true })

-- a waiting run ends; a run that is already stopping, or has ended, makes no move
abbrev pub run_stop_moves_in : RunPhase → ℕ → RunState → List Move
run_stop_moves_in run.Waiting r x = Move.stop (Run r) ∷ Move.end_with Cancelled (Run r) ∷ []
run_stop_moves_in run.Live r x = if x.stopping then [] else stop_request_moves r x
run_stop_moves_in run.Ended r x = []

abbrev pub run_stop_moves : ℕ → RunState → List Move
run_stop_moves r x = run_stop_moves_in x.phase r x

-- ---- a run or a leg is stopped

abbrev pub stop_holder : Holder → List RunState → Transition
stop_holder (Run r) runs =
    record { runs = with_run r stopped_run runs; moves = option_map_or (run_stop_moves r) (run_at runs r) [] }
stop_holder (Leg p) runs =
    record { runs = with_leg p stopped runs; moves = option_map_or (λ l. leg_stop_moves p l.phase) (leg_at runs p) [] }

-- ---- a pending holder is displaced

-- It ends as cancelled, as a waiting holder does when it is stopped. It was never asked to stop, so its end is its only move.
abbrev pub displace : Holder → List RunState → Transition
displace h runs = record { runs = (stop_holder h runs).runs; moves = Move.end_with Cancelled h ∷ [] }

-- ---- a leg ends

-- its end, and then the stops of the other legs of its job, if its end stops them
abbrev pub others_stop_moves : LegSite → Outcome → List RunState → List Move
others_stop_moves p outcome runs =
    option_map_or (λ job. legs_stop_moves p.run p.job job.legs) (job_at (with_leg p (leg_in_phase (leg.Ended outcome)) runs) p.run p.job) []

abbrev pub end_moves : LegSite → Outcome → List RunState → List Move
end_moves p outcome runs =
    Move.end_with outcome (Leg p) ∷ (if stops_others runs p outcome then others_stop_moves p outcome runs else [])

-- ---- the leg with a lease ends

-- the runs after the leg with the lease has ended
abbrev pub with_ended : ℕ → Outcome → List RunState → List RunState
with_ended lease outcome runs = option_map_or (λ p. after_end p outcome runs) (site_of_lease runs lease) runs

-- the moves that this makes
abbrev pub lease_end_moves : ℕ → Outcome → List RunState → List Move
lease_end_moves lease outcome runs = option_map_or (λ p. end_moves p outcome runs) (site_of_lease runs lease) []

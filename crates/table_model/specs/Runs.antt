-- Runs with their jobs and legs: what they are made of, how one is read and changed at a site, the phases, and a run as it begins.
use Rattle.std.specs.Prelude.{ℕ, List, Bool, Option, zero, suc, [], ◌∷◌, None, map, flat_map, option_and_then, slice_get, filter_map, false}
use Rattle.std.specs.Prelude.{Some, option_map, ◌&&◌, replicate, true, is_some, ◌+◌}
use Rattle.definitions.specs.SmallText.{Admitted}
use Rattle.table_model.specs.declared.phases.JobPhase.{JobPhase}
use Rattle.table_model.specs.declared.phases.LegPhase.{LegPhase}
use Rattle.table_model.specs.declared.phases.RunPhase.{RunPhase}
use Rattle.std.specs.List.{enumerate_from, slice_index_or, list_all}
use Rattle.std.specs.Option.{option_or, option_map_or}
use Rattle.run_plan.specs.PlanOf.{plan_of, plan_graph}
use Rattle.run_plan.specs.declared.planned.PlannedJob.{PlannedJob}
use Rattle.table_model.specs.declared.sites.LegSite.{LegSite}
use Rattle.std.specs.Str.{bytes_eq}
use Rattle.wf_value.specs.declared.outcome.JobResult.{JobResult}
use Rattle.needs_graph.specs.Needs.{needs_at}
use Rattle.table_model.specs.declared.phases.JobPhase.TheVariants as job_phase
use Rattle.wf_value.specs.declared.outcome.Outcome.{Outcome}
use Rattle.table_model.specs.declared.phases.LegPhase.TheVariants as leg_phase
use Rattle.table_model.specs.declared.phases.RunPhase.TheVariants as run_phase

-- ---- a run with its jobs and their legs, as contracts see it. It omits what follows from the rest, such as a leg's labels and a run's
-- conclusion.

-- a leg: its phase, and the lease under which a runner runs it or ran it
pub record LegState : Type 0 where
  pub phase : LegPhase
  pub lease : Option ℕ

-- a job of a run, at its index in the plan, with its legs by index from 0: none until it opens
pub record JobState : Type 0 where
  pub phase : JobPhase
  pub legs : List LegState

-- a run: its id, its number among the runs of its workflow, what was admitted, its attempt, the phase of the attempt, and whether it has
-- been asked to stop. GitHub Docs, "Contexts reference", github.run_id and github.run_number: they do not change if the run is re-run;
-- github.run_attempt: it begins at 1 and grows by 1 with each re-run.
pub record RunState : Type 0 where
  pub id : ℕ
  pub number : ℕ
  pub admitted : Admitted
  pub attempt : ℕ
  pub phase : RunPhase
  pub stopping : Bool
  pub jobs : List JobState

-- ---- the elements of a list with their indices, the first element for which a partial function has a value, and a change at one index.

-- the elements with their indices, from 0
abbrev pub placed : {X : Type 0} → List X → List (ℕ × X)
placed xs = enumerate_from 0 xs

-- the value at the first element that has one
abbrev pub first_some : {X Y : Type 0} → (X → Option Y) → List X → Option Y
first_some f [] = None
first_some f (x ∷ xs) = option_or (f x) (first_some f xs)

-- the list with the element at an index changed
abbrev pub changed_at : {X : Type 0} → ℕ → (X → X) → List X → List X
changed_at i f [] = []
changed_at zero f (x ∷ xs) = f x ∷ xs
changed_at (suc i) f (x ∷ xs) = x ∷ changed_at i f xs

-- ---- reading and changing the runs of a table at a site: the index of a run in the list, of a job in its run, and of a leg in its job, all
-- from 0.

abbrev pub leg_site : ℕ → ℕ → ℕ → LegSite
leg_site r j l = record { run = r; job = j; leg = l }

-- ---- reading

abbrev pub run_at : List RunState → ℕ → Option RunState
run_at runs r = slice_get runs r

abbrev pub job_at : List RunState → ℕ → ℕ → Option JobState
job_at runs r j = option_and_then (λ run. slice_get run.jobs j) (run_at runs r)

abbrev pub leg_at : List RunState → LegSite → Option LegState
leg_at runs p = option_and_then (λ job. slice_get job.legs p.leg) (job_at runs p.run p.job)

-- the plan of job `j` of run `r`
abbrev pub plan_at : List RunState → ℕ → ℕ → Option PlannedJob
plan_at runs r j = option_and_then (λ run. slice_get (plan_of run.admitted.body) j) (run_at runs r)

-- ---- changing

abbrev pub with_run : ℕ → (RunState → RunState) → List RunState → List RunState
with_run r change runs = changed_at r change runs

abbrev pub with_job : ℕ → ℕ → (JobState → JobState) → List RunState → List RunState
with_job r j change runs = with_run r (λ run. record run { jobs = changed_at j change run.jobs }) runs

abbrev pub with_leg : LegSite → (LegState → LegState) → List RunState → List RunState
with_leg p change runs = with_job p.run p.job (λ job. record job { legs = changed_at p.leg change job.legs }) runs

-- ---- all legs

abbrev pub leg_sites_of_job : ℕ → ℕ × JobState → List LegSite
leg_sites_of_job r j = map (λ l. record { run = r; job = j.0; leg = l.0 }) (placed j.1.legs)

abbrev pub leg_sites_of_run : ℕ × RunState → List LegSite
leg_sites_of_run r = flat_map (leg_sites_of_job r.0) (placed r.1.jobs)

-- the sites of all legs, in the order of run, job and leg
abbrev pub leg_sites : List RunState → List LegSite
leg_sites runs = flat_map leg_sites_of_run (placed runs)

-- ---- the results that the jobs of a run have so far, and the jobs that each one needs. GitHub Docs, "Workflow syntax for GitHub Actions":
-- jobs.<job_id>.needs.

-- the result of a job, once it has finished
abbrev pub finished_result : JobPhase → Option JobResult
finished_result job_phase.Blocked = None
finished_result job_phase.Open = None
finished_result (job_phase.Finished r) = Some r

-- the results that jobs have so far, in order
abbrev pub results_so_far : List JobState → List (Option JobResult)
results_so_far jobs = map (λ j. finished_result j.phase) jobs

-- the results of the jobs that have finished
abbrev pub results_of : List JobState → List JobResult
results_of jobs = filter_map (λ j. finished_result j.phase) jobs

-- the results that the jobs of run `r` have so far
abbrev pub job_results : List RunState → ℕ → List (Option JobResult)
job_results runs r = option_map_or (λ run. results_so_far run.jobs) (run_at runs r) []

-- for each job of a run, the indices of the jobs that it needs directly by the run's plan
abbrev pub needs_in : RunState → List (List ℕ)
needs_in run = plan_graph (plan_of run.admitted.body)

abbrev pub needs_graph_at : List RunState → ℕ → List (List ℕ)
needs_graph_at runs r = option_map_or needs_in (run_at runs r) []

-- ---- by their ids

-- whether the job at an index of a plan has the id
unfoldable pub has_id : List PlannedJob → List ℕ → ℕ → Bool
has_id plan id index = option_map_or (λ planned. bytes_eq planned.id id) (slice_get plan index) false

-- the id of the job at an index, with its result so far
abbrev pub with_result : List PlannedJob → List (Option JobResult) → ℕ → Option (List ℕ × Option JobResult)
with_result plan results index = option_map (λ planned. (planned.id, slice_index_or results index None)) (slice_get plan index)

-- the jobs that job `j` of a run needs directly, each by its id with its result so far
unfoldable pub direct_needs : RunState → ℕ → List (List ℕ × Option JobResult)
direct_needs run j = filter_map (with_result (plan_of run.admitted.body) (results_so_far run.jobs)) (needs_at (needs_in run) j)

-- ---- the phases of runs, jobs and legs, and the transitions of each on its own.

-- ---- a run

abbrev pub is_live : RunPhase → Bool
is_live run_phase.Live = true
is_live _ = false

abbrev pub run_in_phase : RunPhase → RunState → RunState
run_in_phase phase r = record r { phase = phase }

-- ---- a leg

abbrev pub new_leg : LegState
new_leg = record { phase = leg_phase.New; lease = None }

abbrev pub leg_in_phase : LegPhase → LegState → LegState
leg_in_phase phase l = record l { phase = phase }

abbrev pub is_new : LegPhase → Bool
is_new leg_phase.New = true
is_new _ = false

-- the outcome of a leg, once it has ended
abbrev pub outcome_of : LegPhase → Option Outcome
outcome_of (leg_phase.Ended r) = Some r
outcome_of _ = None

abbrev pub leg_has_ended : LegState → Bool
leg_has_ended l = is_some (outcome_of l.phase)

-- ---- a job

abbrev pub is_blocked : JobPhase → Bool
is_blocked job_phase.Blocked = true
is_blocked _ = false

abbrev pub is_open : JobPhase → Bool
is_open job_phase.Open = true
is_open _ = false

abbrev pub is_finished : JobState → Bool
is_finished j = is_some (finished_result j.phase)

-- an open job whose legs have all ended
abbrev pub is_done : JobState → Bool
is_done j = is_open j.phase && list_all leg_has_ended j.legs

-- the job with all legs of its plan, new
abbrev pub opened : ℕ → JobState → JobState
opened planned j = record { phase = job_phase.Open; legs = replicate planned new_leg }

abbrev pub finished_as : JobResult → JobState → JobState
finished_as r j = record j { phase = job_phase.Finished r }

-- ---- a run as it is made from an event, whether a run comes from a delivery, and a leg as it is handed to a runner. GitHub Docs, "Webhook
-- events and payloads" (X-GitHub-Delivery); "Re-running workflows and jobs": a re-run has the same event, and all jobs of the run begin
-- again; "Contexts reference" (github.run_attempt). This project defines leases.

abbrev pub is_delivered_as : List ℕ → RunState → Bool
is_delivered_as delivery run = bytes_eq run.admitted.delivery delivery

abbrev pub blocked_job : JobState
blocked_job = record { phase = job_phase.Blocked; legs = [] }

-- a waiting run with this id and this number, in this attempt, with all jobs of its plan blocked
abbrev pub run_in_attempt : ℕ → ℕ → ℕ → Admitted → RunState
run_in_attempt id number attempt event = record {
  id = id;
  number = number;
  admitted = event;
  attempt = attempt;
  phase = run_phase.Waiting;
  stopping = false;
  jobs = map (λ _. blocked_job) (plan_of event.body);
}

-- the first attempt
abbrev pub new_run : ℕ → ℕ → Admitted → RunState
new_run id number event = run_in_attempt id number 1 event

-- the next attempt, for the same event, with the same id and the same number
abbrev pub again : RunState → RunState
again run = run_in_attempt run.id run.number (run.attempt + 1) run.admitted

-- a leg that runs under a lease
abbrev pub leased_leg : ℕ → LegState
leased_leg lease = record { phase = leg_phase.Running; lease = Some lease }

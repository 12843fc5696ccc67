-- What every table keeps.
use Rattle.std.specs.Prelude.{◌≡◌, ◌⊎◌, ℕ, List, [], length, Bool, true, false, slice_get, Option, Some, None, IsSome, ◌<◌, ◌≤◌}
use Rattle.std.specs.Prelude.{◌+◌, take, min, sum_by}
use Rattle.std.specs.List.{AllByRecursion, list_all}
use Rattle.wf_value.specs.declared.outcome.JobResult.{JobResult}
use Rattle.wf_value.specs.declared.outcome.JobResult.TheVariants as result
use Rattle.wf_value.specs.declared.outcome.Outcome.TheVariants as outcome
use Rattle.run_plan.specs.PlanOf.{plan_of}
use Rattle.table_model.specs.Runs.{run_at, job_at, leg_at, LegState, JobState, RunState}
use Rattle.table_model.specs.declared.sites.LegSite.{LegSite}
use Rattle.table_model.specs.Settling.{leg_has_ended, is_finished, result_at, first_site}
use Rattle.table_model.specs.LegContext.{needs_have_finished, planned_legs, runs_of_workflow}
use Rattle.table_model.specs.declared.phases.JobPhase.{JobPhase}
use Rattle.table_model.specs.declared.phases.JobPhase.TheVariants as job
use Rattle.table_model.specs.declared.phases.LegPhase.{LegPhase}
use Rattle.table_model.specs.declared.phases.LegPhase.TheVariants as leg
use Rattle.table_model.specs.declared.phases.RunPhase.{RunPhase}
use Rattle.table_model.specs.declared.phases.RunPhase.TheVariants as run_phase
use Rattle.definitions.specs.Limits.{last_attempt, last_number, max_runs}
use Rattle.table_model.specs.Groups.{HasOneEach}
use Rattle.table_model.specs.Fitting.{is_at_work, legs_at_work, most_at_work}
use Rattle.table_model.specs.Forgotten.{ForgottenRuns, forgotten_of, increases, max_kept_deliveries, workflow_order}
use Rattle.table_model.specs.Step.{lease_at}
use Rattle.table_model.specs.TableState.{RunnerState, TableState, known_deliveries, last_id, names_rise}
use Rattle.run_plan.specs.declared.last_command.LastCommand.{LastCommand}
use Rattle.run_plan.specs.declared.last_command.LastCommand.TheVariants as last
use Rattle.run_plan.specs.declared.last_command.ClaimReply.TheVariants as given
use Rattle.run_plan.specs.declared.last_command.KeptLease.{KeptLease}

-- ---- what each run of a table satisfies on its own, even within a step, while the runs settle. The rules are those of GitHub Docs, "Workflow
-- syntax for GitHub Actions" (jobs, jobs.<job_id>.strategy, jobs.<job_id>.runs-on), where it has them. This project defines leases.

-- a run has one job for each job of its plan
abbrev pub JobsAreThePlans : List RunState → Type 0
JobsAreThePlans runs = (r : ℕ) (x : RunState) → run_at runs r ≡ Some x → length x.jobs ≡ length (plan_of x.admitted.body)

-- a waiting run has not been asked to stop, and all its jobs are blocked; all jobs of an ended run have finished
abbrev pub PhaseFits : RunPhase → Bool → List JobState → Type 0
PhaseFits run_phase.Waiting stopping jobs = (stopping ≡ false) × ((j : ℕ) (x : JobState) → slice_get jobs j ≡ Some x → x.phase ≡ job.Blocked)
PhaseFits run_phase.Live stopping jobs = Unit {0}
PhaseFits run_phase.Ended stopping jobs = (j : ℕ) (x : JobState) → slice_get jobs j ≡ Some x → is_finished x ≡ true

abbrev pub RunPhasesFit : List RunState → Type 0
RunPhasesFit runs = (r : ℕ) (x : RunState) → run_at runs r ≡ Some x → PhaseFits x.phase x.stopping x.jobs

-- a job that never opened finishes as skipped or as cancelled
abbrev pub MayLackLegs : JobResult → Type 0
MayLackLegs result.Success = ⊥
MayLackLegs result.Failure = ⊥
MayLackLegs result.Cancelled = Unit {0}
MayLackLegs result.Skipped = Unit {0}

-- A blocked job has no legs, and an open job has all legs of its plan. A finished job has none or all. If it has all, they have ended, and
-- their combined result is the job's.
abbrev pub LegsFit : ℕ → JobResult → JobPhase → List LegState → Type 0
LegsFit planned gathered job.Blocked legs = legs ≡ []
LegsFit planned gathered job.Open legs = length legs ≡ planned
LegsFit planned gathered (job.Finished r) legs =
    ((legs ≡ []) × MayLackLegs r) ⊎ ((length legs ≡ planned) × (list_all leg_has_ended legs ≡ true) × (r ≡ gathered))

abbrev pub JobsFit : List RunState → Type 0
JobsFit runs = (r j : ℕ) (x : JobState) → job_at runs r j ≡ Some x → LegsFit (planned_legs runs r j) (result_at runs r j x) x.phase x.legs

-- all needs of a job that has legs have finished
abbrev pub NeedsComeFirst : List RunState → Type 0
NeedsComeFirst runs = (r j : ℕ) (x : JobState) → job_at runs r j ≡ Some x → (x.legs ≡ [] → ⊥) → needs_have_finished runs r j ≡ true

-- a leg that no runner has claimed has no lease; a leg that runs, or has ended as a success or a failure, has one
abbrev pub LeaseFits : LegPhase → Option ℕ → Type 0
LeaseFits leg.New lease = lease ≡ None
LeaseFits leg.Waiting lease = lease ≡ None
LeaseFits leg.Ready lease = lease ≡ None
LeaseFits leg.Running lease = IsSome lease
LeaseFits leg.Stopping lease = IsSome lease
LeaseFits (leg.Ended outcome.Success) lease = IsSome lease
LeaseFits (leg.Ended outcome.Failure) lease = IsSome lease
LeaseFits (leg.Ended outcome.Cancelled) lease = Unit {0}

abbrev pub LeasesFit : List RunState → Type 0
LeasesFit runs = (p : LegSite) (x : LegState) → leg_at runs p ≡ Some x → LeaseFits x.phase x.lease

-- this holds within a step too, while the runs settle
pub record RunsAreSound (runs : List RunState) : Type 0 where
  pub jobs_are_the_plans : JobsAreThePlans runs
  pub run_phases_fit : RunPhasesFit runs
  pub jobs_fit : JobsFit runs
  pub needs_finished_first : NeedsComeFirst runs
  pub leases_fit : LeasesFit runs

-- ---- the invariants of every table, whatever its commands were. Each rule uses the words of GitHub Docs where they have
-- them: "Workflow syntax for GitHub Actions" (jobs, jobs.<job_id>.strategy, jobs.<job_id>.runs-on) and "Control the
-- concurrency of workflows and jobs". This project defines leases, command numbers and kept replies.

-- ---- runs

-- The counts of workflows are in order, each is of one run or more, and their sum is the number of runs that are forgotten. The deliveries of
-- the last of these are kept.
pub record ForgottenFit (forgotten : ForgottenRuns) : Type 0 where
  pub counts_in_order : increases workflow_order forgotten.counts ≡ true
  pub each_counts : AllByRecursion (λ count. 1 ≤ count.runs) forgotten.counts
  pub all_counted : sum_by (λ count. count.runs) forgotten.counts ≡ forgotten.through
  pub last_are_kept : length forgotten.deliveries ≡ min forgotten.through max_kept_deliveries

-- ids go on from the last one that is forgotten
abbrev pub IdsFollow : ForgottenRuns → List RunState → Type 0
IdsFollow forgotten runs = (r : ℕ) (x : RunState) → run_at runs r ≡ Some x → x.id ≡ forgotten.through + r + 1

-- the number of a run is how many runs of its workflow there have been up to it
abbrev pub NumbersFollow : ForgottenRuns → List RunState → Type 0
NumbersFollow forgotten runs =
    (r : ℕ) (x : RunState) → run_at runs r ≡ Some x
    → x.number ≡ forgotten_of forgotten.counts x.admitted + runs_of_workflow x.admitted (take (r + 1) runs)

-- no two of these deliveries are the same
abbrev pub DeliveriesDiffer : List (List ℕ) → Type 0
DeliveriesDiffer deliveries =
    (a b : ℕ) (delivery : List ℕ) → slice_get deliveries a ≡ Some delivery → slice_get deliveries b ≡ Some delivery → a ≡ b

-- an attempt is a number from 1 to the last
abbrev pub AttemptIsGiven : RunState → Type 0
AttemptIsGiven x = (1 ≤ x.attempt) × (x.attempt ≤ last_attempt)

abbrev pub AttemptsAreGiven : List RunState → Type 0
AttemptsAreGiven runs = (r : ℕ) (x : RunState) → run_at runs r ≡ Some x → AttemptIsGiven x

-- ---- jobs

-- at most max-parallel legs of a job are running or stopping
abbrev pub ParallelIsBounded : List RunState → Type 0
ParallelIsBounded runs =
    (r j : ℕ) (x : JobState) (most : ℕ) → job_at runs r j ≡ Some x → most_at_work runs r j ≡ Some most → legs_at_work x ≤ most

-- ---- leases of legs, granted and held

-- a lease is a number from 1 to the last
abbrev pub LeasesAreGiven : ℕ → List RunState → Type 0
LeasesAreGiven last runs = (p : LegSite) (x : LegState) (n : ℕ) → leg_at runs p ≡ Some x → x.lease ≡ Some n → (1 ≤ n) × (n ≤ last)

-- no two legs have the same lease
abbrev pub LeasesDiffer : List RunState → Type 0
LeasesDiffer runs =
    (p q : LegSite) (x y : LegState) (n : ℕ) → leg_at runs p ≡ Some x → leg_at runs q ≡ Some y → x.lease ≡ Some n → y.lease ≡ Some n
    → p ≡ q

-- ---- runners

-- some runner holds the lease
abbrev pub IsHeld : List RunnerState → ℕ → Type 0
IsHeld runners n = (k : ℕ) × (x : RunnerState) × (slice_get runners k ≡ Some x) × (x.holds ≡ Some n)

-- a leg on which a runner is at work has the lease
abbrev pub IsAtWork : List RunState → ℕ → Type 0
IsAtWork runs n = (p : LegSite) × (x : LegState) × (leg_at runs p ≡ Some x) × (x.lease ≡ Some n) × (is_at_work x.phase ≡ true)

-- every lease of a leg at work is held
abbrev pub WorkIsHeld : List RunState → List RunnerState → Type 0
WorkIsHeld runs runners =
    (p : LegSite) (x : LegState) (n : ℕ) → leg_at runs p ≡ Some x → is_at_work x.phase ≡ true → x.lease ≡ Some n → IsHeld runners n

-- every lease that is held is that of a leg at work
abbrev pub HeldIsAtWork : List RunState → List RunnerState → Type 0
HeldIsAtWork runs runners = (k : ℕ) (x : RunnerState) (n : ℕ) → slice_get runners k ≡ Some x → x.holds ≡ Some n → IsAtWork runs n

-- no two runners hold the same lease
abbrev pub HeldOnce : List RunnerState → Type 0
HeldOnce runners =
    (a b : ℕ) (x y : RunnerState) (n : ℕ) → slice_get runners a ≡ Some x → slice_get runners b ≡ Some y → x.holds ≡ Some n
    → y.holds ≡ Some n → a ≡ b

-- a runner's last command is its own and has its last number
abbrev pub IsLastOf : List ℕ → ℕ → LastCommand → Type 0
IsLastOf name number (last.Claim claim given) = (claim.runner ≡ name) × (claim.number ≡ number)
IsLastOf name number (last.Done report) = (report.runner ≡ name) × (report.number ≡ number)

abbrev pub LastsAreOwn : List RunnerState → Type 0
LastsAreOwn runners = (k : ℕ) (x : RunnerState) → slice_get runners k ≡ Some x → IsLastOf x.name x.number x.last

-- A kept lease was granted for a leg of the run's plan, in an attempt up to the current one. It names that run, that
-- job, the leg's number and its combination. If it was granted in the current attempt, the leg has it.
pub record IsOfALeg (most : ℕ) (runs : List RunState) (kept : KeptLease) : Type 0 where
  pub place : LegSite
  pub run : RunState
  pub run_is : run_at runs place.run ≡ Some run
  pub job_is : kept.job ≡ place.job
  pub planned : place.leg < planned_legs runs place.run place.job
  pub tells : kept.lease_reply ≡ lease_at runs place kept.lease_reply.lease
  pub given : (1 ≤ kept.lease_reply.lease) × (kept.lease_reply.lease ≤ most)
  pub attempt : (1 ≤ kept.attempt) × (kept.attempt ≤ run.attempt)
  pub has_it : kept.attempt ≡ run.attempt → (x : LegState) × (leg_at runs place ≡ Some x) × (x.lease ≡ Some kept.lease_reply.lease)

abbrev pub KeptIsOfALeg : ℕ → List RunState → LastCommand → Type 0
KeptIsOfALeg most runs (last.Claim claim given.Nothing) = Unit {0}
KeptIsOfALeg most runs (last.Claim claim (given.Lease kept)) = IsOfALeg most runs kept
KeptIsOfALeg most runs (last.Done report) = Unit {0}

abbrev pub KeptLeasesAreOfLegs : ℕ → List RunState → List RunnerState → Type 0
KeptLeasesAreOfLegs most runs runners = (k : ℕ) (x : RunnerState) → slice_get runners k ≡ Some x → KeptIsOfALeg most runs x.last

-- ---- all rules

pub record IsSound (t : TableState) : Type 0 where
  pub few_runs : length t.runs ≤ max_runs
  pub last_id_in_range : last_id t ≤ last_number
  pub forgotten_fit : ForgottenFit t.forgotten
  pub ids_follow : IdsFollow t.forgotten t.runs
  pub numbers_follow : NumbersFollow t.forgotten t.runs
  pub deliveries_differ : DeliveriesDiffer (known_deliveries t)
  pub attempts_are_given : AttemptsAreGiven t.runs
  pub jobs_are_the_plans : JobsAreThePlans t.runs
  pub run_phases_fit : RunPhasesFit t.runs
  pub jobs_fit : JobsFit t.runs
  pub needs_finished_first : NeedsComeFirst t.runs
  pub parallel_bounded : ParallelIsBounded t.runs
  pub one_of_each_group : HasOneEach t.runs
  pub leases_fit : LeasesFit t.runs
  pub leases_are_given : LeasesAreGiven t.last_lease t.runs
  pub leases_differ : LeasesDiffer t.runs
  pub last_lease_in_range : t.last_lease ≤ last_number
  pub runners_in_order : names_rise t.runners ≡ true
  pub work_is_held : WorkIsHeld t.runs t.runners
  pub held_is_at_work : HeldIsAtWork t.runs t.runners
  pub held_once : HeldOnce t.runners
  pub no_rule_applies : first_site t.runs ≡ None
  pub lasts_are_own : LastsAreOwn t.runners
  pub kept_leases_are_of_legs : KeptLeasesAreOfLegs t.last_lease t.runs t.runners

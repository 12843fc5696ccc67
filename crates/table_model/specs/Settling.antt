-- Settling: arrivals and starts, the rules, and applying them until none applies.
use Rattle.std.specs.Prelude.{List, [], ◌∷◌, filter, Bool, false, ◌&&◌, not, if◌then◌else◌, ◌≡◌, ℕ, ◌++◌, map, flat_map, filter_map, Option}
use Rattle.std.specs.Prelude.{Some, None, option_map, option_and_then, zero, suc, ◌+◌, ◌*◌, find, length, sum_by, is_some, slice_get}
use Rattle.std.specs.Option.{option_map_or}
use Rattle.group_name.specs.Group.{Group}
use Rattle.table_model.specs.Groups.{cancels_in_progress, group_at, all_holders, is_in, is_pending_in, in_progress_in, may_start}
use Rattle.table_model.specs.GroupLaw.{same_holder, Move, Transition, and_then, at_each, without_moves}
use Rattle.table_model.specs.declared.sites.LegSite.{LegSite}
use Rattle.table_model.specs.Runs.{RunState, LegState, JobState, placed, results_of, run_at, job_at, leg_at, with_run, with_job, with_leg}
use Rattle.table_model.specs.Stops.{displace, stop_holder}
use Rattle.table_model.specs.declared.holder.Holder.{Holder}
use Rattle.table_model.specs.declared.holder.Holder.TheVariants.{Run, Leg}
use Rattle.std.specs.List.{list_all}
use Rattle.wf_value.specs.declared.outcome.JobResult.{JobResult}
use Rattle.wf_value.specs.declared.outcome.JobResult.TheVariants as result
use Rattle.wf_value.specs.declared.outcome.Outcome.TheVariants as outcome
use Rattle.needs_graph.specs.declared.ended.LegEnd.{LegEnd}
use Rattle.needs_graph.specs.Needs.{conclusion_of, gathered, condition_value}
pub use Rattle.table_model.specs.Runs.{leg_has_ended, is_blocked, is_done, is_live, is_open, is_finished, leg_in_phase, new_leg}
pub use Rattle.table_model.specs.Runs.{opened, outcome_of, run_in_phase, finished_as}
use Rattle.table_model.specs.LegContext.{condition_of, ancestor_results, needs_have_finished, is_stopping, planned_legs, continues_on_error}
use Rattle.table_model.specs.declared.phases.LegPhase.{LegPhase}
use Rattle.table_model.specs.declared.phases.LegPhase.TheVariants as leg
use Rattle.table_model.specs.declared.phases.RunPhase.{RunPhase}
use Rattle.table_model.specs.declared.phases.RunPhase.TheVariants as run
use Rattle.table_model.specs.declared.sites.RuleSite.{RuleSite}
use Rattle.table_model.specs.declared.sites.RuleSite.TheVariants.{Opening, AtLeg, Closing, Whole}
use Rattle.run_plan.specs.PlanOf.{plan_of}
use Rattle.run_plan.specs.declared.planned.PlannedJob.{PlannedJob}
use Rattle.table_model.specs.declared.phases.JobPhase.{JobPhase}
use Rattle.table_model.specs.declared.phases.JobPhase.TheVariants as job_phase

-- ---- how a run or a leg arrives in its concurrency group, and how it starts. GitHub Docs, "Control the concurrency of workflows and jobs":
-- when a job or workflow is queued while another of its group is in progress, it is pending; one that was pending in the group is
-- cancelled, and the new one takes its place; with cancel-in-progress the one in progress is cancelled too. This project defines two
-- points: a leg whose group its own run holds is cancelled, and a run or leg without a group waits for nothing.

-- ---- arrival

-- every other holder that is pending in the group
abbrev pub others_pending : Group → Holder → List RunState → List Holder
others_pending g newcomer runs = filter (λ h. is_pending_in runs g h && not (same_holder h newcomer)) (all_holders runs)

-- the other pending holders end as cancelled
abbrev pub displaced : Group → Holder → List RunState → Transition
displaced g newcomer runs = at_each displace (others_pending g newcomer runs) runs

-- the holder in progress in the group is stopped
abbrev pub in_progress_stopped : Group → List RunState → Transition
in_progress_stopped g runs = at_each stop_holder (in_progress_in runs g) runs

abbrev pub stopped_where_requested : Bool → Group → List RunState → Transition
stopped_where_requested cancels g runs = if cancels then in_progress_stopped g runs else without_moves runs

-- a newcomer displaces the pending holders of a group, and stops the one in progress if it asks for cancellation
abbrev pub room_made : Bool → Holder → List RunState → Group → Transition
room_made cancels newcomer runs g = and_then (displaced g newcomer runs) (stopped_where_requested cancels g)

-- a newcomer makes room in its own group, if it has one
abbrev pub room_made_for : Holder → List RunState → Transition
room_made_for newcomer runs =
    option_map_or (room_made (cancels_in_progress runs newcomer) newcomer runs) (group_at runs newcomer) (without_moves runs)

-- The newcomer, which waits already, has arrived.
abbrev pub arrived : Holder → List RunState → Transition
arrived newcomer runs =
    let made = room_made_for newcomer runs in record { runs = made.runs; moves = Move.arrive newcomer ∷ made.moves }

-- ---- a leg that does not arrive

-- whether its group is the group of its own run
abbrev pub is_in_group_of_run : List RunState → LegSite → Bool
is_in_group_of_run runs p = option_map_or (λ g. is_in runs g (Leg p)) (group_at runs (Run p.run)) false

-- ---- the start

abbrev pub started : Holder → List RunState → Transition
started h runs = record { runs = runs; moves = Move.start h ∷ [] }

-- ---- the settling rules: where each rule applies, the runs after it, and the moves of groups that it makes. GitHub Docs, "Workflow syntax for
-- GitHub Actions": jobs.<job_id>.needs and jobs.<job_id>.if; "Control the concurrency of workflows and jobs". This project defines that a
-- run or leg without a group starts at once, and the order of the sites.

-- ---- the sites in the order in which settling visits them: where a job opens, its legs, where it finishes with its result, and the run
-- itself

-- where the job opens, its legs by index, and where it finishes
abbrev pub job_sites : ℕ → ℕ × JobState → List RuleSite
job_sites r j = Opening r j.0 ∷ map (λ l. AtLeg (record { run = r; job = j.0; leg = l.0 })) (placed j.1.legs) ++ Closing r j.0 ∷ []

-- in a live run its jobs in order; then the run itself
abbrev pub run_sites : ℕ × RunState → List RuleSite
run_sites r = (if is_live r.1.phase then flat_map (job_sites r.0) (placed r.1.jobs) else []) ++ Whole r.0 ∷ []

-- all sites, with the runs in the order of their ids
abbrev pub rule_sites : List RunState → List RuleSite
rule_sites runs = flat_map run_sites (placed runs)

-- ---- a job opens

-- the value of the job's condition
abbrev pub may_run : List RunState → ℕ → ℕ → Bool
may_run runs r j = condition_value (condition_of runs r j) (ancestor_results runs r j) (is_stopping runs r)

-- The job opens if its condition holds. Otherwise it finishes: as cancelled if the run is stopping, which this project defines, and as
-- skipped if not.
abbrev pub decided : List RunState → ℕ → ℕ → JobState → JobState
decided runs r j =
    if may_run runs r j
    then opened (planned_legs runs r j)
    else finished_as (if is_stopping runs r then result.Cancelled else result.Skipped)

abbrev pub opening_rule : List RunState → ℕ → ℕ → JobState → Option Transition
opening_rule runs r j job =
    if is_blocked job.phase && needs_have_finished runs r j
    then Some (without_moves (with_job r j (decided runs r j) runs))
    else None

-- ---- a leg advances

abbrev pub with_leg_in : LegPhase → LegSite → List RunState → List RunState
with_leg_in phase p runs = with_leg p (leg_in_phase phase) runs

-- A new leg arrives in its group and waits. If its group is its own run's, it is cancelled instead, which this project defines.
abbrev pub newcomer_rule : List RunState → LegSite → Transition
newcomer_rule runs p =
    if is_in_group_of_run runs p
    then without_moves (with_leg_in (leg.Ended outcome.Cancelled) p runs)
    else arrived (Leg p) (with_leg_in leg.Waiting p runs)

-- a waiting leg becomes ready if its group, where it has one, is free
abbrev pub waiting_leg_rule : List RunState → LegSite → Option Transition
waiting_leg_rule runs p =
    if may_start runs (Leg p) then Some (started (Leg p) (with_leg_in leg.Ready p runs)) else None

abbrev pub leg_rule_in : LegPhase → List RunState → LegSite → Option Transition
leg_rule_in leg.New runs p = Some (newcomer_rule runs p)
leg_rule_in leg.Waiting runs p = waiting_leg_rule runs p
leg_rule_in _ runs p = None

abbrev pub leg_rule : List RunState → LegSite → LegState → Option Transition
leg_rule runs p l = leg_rule_in l.phase runs p

-- ---- a job finishes

abbrev pub leg_end : List RunState → ℕ → ℕ → ℕ × LegState → Option LegEnd
leg_end runs r j l =
    option_map (λ o. record { outcome = o; continue_on_error = continues_on_error runs (record { run = r; job = j; leg = l.0 }) })
    (outcome_of l.1.phase)

-- the ends of those legs of a job that have ended
abbrev pub leg_ends : List RunState → ℕ → ℕ → JobState → List LegEnd
leg_ends runs r j job = filter_map (leg_end runs r j) (placed job.legs)

-- the result of a job from its legs
abbrev pub result_at : List RunState → ℕ → ℕ → JobState → JobResult
result_at runs r j job = gathered (leg_ends runs r j job)

abbrev pub closing_rule : List RunState → ℕ → ℕ → JobState → Option Transition
closing_rule runs r j job =
    if is_done job then Some (without_moves (with_job r j (finished_as (result_at runs r j job)) runs)) else None

-- ---- a run advances

-- a waiting run becomes live if its group, where it has one, is free
abbrev pub waiting_run_rule : List RunState → ℕ → Option Transition
waiting_run_rule runs r =
    if may_start runs (Run r) then Some (started (Run r) (with_run r (run_in_phase run.Live) runs)) else None

-- a live run ends with its conclusion once all its jobs have finished
abbrev pub live_run_rule : List RunState → ℕ → RunState → Option Transition
live_run_rule runs r x =
    if list_all is_finished x.jobs
    then Some (record {
      runs = with_run r (run_in_phase run.Ended) runs;
      moves = Move.end_with (conclusion_of (results_of x.jobs)) (Run r) ∷ [];
    })
    else None

abbrev pub whole_rule_in : RunPhase → List RunState → ℕ → RunState → Option Transition
whole_rule_in run.Waiting runs r x = waiting_run_rule runs r
whole_rule_in run.Live runs r x = live_run_rule runs r x
whole_rule_in run.Ended runs r x = None

abbrev pub whole_rule : List RunState → ℕ → RunState → Option Transition
whole_rule runs r x = whole_rule_in x.phase runs r x

-- ---- the rule at each site

-- the transition of the rule at a site, if one applies
abbrev pub rule_at : List RunState → RuleSite → Option Transition
rule_at runs (Opening r j) = option_and_then (opening_rule runs r j) (job_at runs r j)
rule_at runs (AtLeg p) = option_and_then (leg_rule runs p) (leg_at runs p)
rule_at runs (Closing r j) = option_and_then (closing_rule runs r j) (job_at runs r j)
rule_at runs (Whole r) = option_and_then (whole_rule runs r) (run_at runs r)

-- No leg arrives at the site. An arrival may end and stop holders of its group in other runs.
abbrev pub IsNoArrival : List RunState → RuleSite → Type 0
IsNoArrival runs (Opening r j) = Unit {0}
IsNoArrival runs (AtLeg p) = (l : LegState) → leg_at runs p ≡ Some l → l.phase ≡ leg.New → ⊥
IsNoArrival runs (Closing r j) = Unit {0}
IsNoArrival runs (Whole r) = Unit {0}

abbrev pub run_of_site : RuleSite → ℕ
run_of_site (Opening r j) = r
run_of_site (AtLeg p) = p.run
run_of_site (Closing r j) = r
run_of_site (Whole r) = r

-- ---- settling: apply the rule at the first site where one applies, and repeat until none applies.

abbrev pub applies : List RunState → RuleSite → Bool
applies runs site = is_some (rule_at runs site)

-- the first site where a rule applies
abbrev pub first_site : List RunState → Option RuleSite
first_site runs = find (applies runs) (rule_sites runs)

-- the transition of the rule there
abbrev pub first_rule : List RunState → Option Transition
first_rule runs = option_and_then (rule_at runs) (first_site runs)

-- ---- the remaining work, which each rule lowers

abbrev pub leg_phases_left : LegPhase → ℕ
leg_phases_left leg.New = 5
leg_phases_left leg.Waiting = 4
leg_phases_left leg.Ready = 3
leg_phases_left leg.Running = 2
leg_phases_left leg.Stopping = 1
leg_phases_left (leg.Ended r) = 0

abbrev pub leg_left : LegState → ℕ
leg_left l = leg_phases_left l.phase

-- a blocked job still has all legs of its plan to run
abbrev pub job_phases_left : ℕ → JobPhase → ℕ
job_phases_left planned job_phase.Blocked = 2 + 5 * planned
job_phases_left planned job_phase.Open = 1
job_phases_left planned (job_phase.Finished r) = 0

abbrev pub job_left : ℕ → JobState → ℕ
job_left planned j = job_phases_left planned j.phase + sum_by leg_left j.legs

-- how many legs a plan has for job `j`
abbrev pub legs_in_plan : List PlannedJob → ℕ → ℕ
legs_in_plan plan j = option_map_or (λ planned. length planned.legs) (slice_get plan j) 0

abbrev pub run_phases_left : RunPhase → ℕ
run_phases_left run.Waiting = 2
run_phases_left run.Live = 1
run_phases_left run.Ended = 0

abbrev pub run_left : RunState → ℕ
run_left r = run_phases_left r.phase + sum_by (λ j. job_left (legs_in_plan (plan_of r.admitted.body) j.0) j.1) (placed r.jobs)

-- how many phases the runs, their jobs and their legs still have to pass
abbrev pub remaining_phases : List RunState → ℕ
remaining_phases runs = sum_by run_left runs

-- ---- repetition

-- the first rule applied at most `n` times
abbrev pub settled_within : ℕ → List RunState → Transition
settled_within zero runs = without_moves runs
settled_within (suc n) runs = option_map_or (λ m. and_then m (settled_within n)) (first_rule runs) (without_moves runs)

abbrev pub settling : List RunState → Transition
settling runs = settled_within (remaining_phases runs) runs

abbrev pub settled : List RunState → List RunState
settled runs = (settling runs).runs

abbrev pub settling_moves : List RunState → List Move
settling_moves runs = (settling runs).moves

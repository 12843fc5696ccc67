-- Examples, by computation: steps on literal tables.
use Rattle.std.specs.Prelude.{◌≡◌, ◌&&◌, ℕ, List, [], ◌∷◌, codes, not, Bool, Some, None, true, false, is_some, slice_get}
use Rattle.std.specs.Prelude.{if◌then◌else◌, refl}
use Rattle.std.proofs.Common.{ap, ◌∙◌}
use Rattle.std.specs.Option.{option_map_or}
use Rattle.wf_value.specs.declared.code.Code.TheVariants.{HasLease, LeaseNotHeld, NoRun}
use Rattle.wf_value.specs.declared.condition.Condition.TheVariants as condition
use Rattle.wf_value.specs.declared.outcome.JobResult.{JobResult}
use Rattle.wf_value.specs.declared.outcome.JobResult.TheVariants as result
use Rattle.wf_value.specs.declared.outcome.Outcome.TheVariants as outcome
use Rattle.wf_value.specs.declared.refusal.Refusal.TheVariants.{Turn}
use Rattle.needs_graph.specs.Needs.{needs_at, gathered}
use Rattle.wf_reader.specs.declared.flag.Flag.TheVariants as flag
use Rattle.run_plan.specs.PlanOf.{plan_of, plan_graph}
use Rattle.run_plan.specs.declared.planned.PlannedJob.{PlannedJob}
use Rattle.run_plan.specs.declared.command.Claim.{Claim as Claimed}
use Rattle.run_plan.specs.declared.command.Command.TheVariants as command
use Rattle.run_plan.specs.declared.reply.Reply.TheVariants as reply
use Rattle.table_model.specs.Forgotten.{none_forgotten}
use Rattle.table_model.specs.Settling.{started, decided, may_run, new_leg, opened, rule_at, finished_as}
use Rattle.table_model.specs.Fitting.{site_of_lease}
use Rattle.table_model.specs.LegContext.{context_at, all_have_results, is_set_for, needs_have_finished, planned_legs}
use Rattle.table_model.specs.GroupLaw.{without_moves}
use Rattle.table_model.specs.Runs.{with_job, blocked_job, leased_leg, LegState, JobState, RunState}
use Rattle.table_model.specs.Settling.{settled, first_site, first_rule, remaining_phases}
use Rattle.table_model.specs.Step.{step, empty, claiming_runner, reporting_runner, refused}
use Rattle.table_model.specs.Stops.{with_stopped_legs}
use Rattle.table_model.specs.TableState.{RunnerState, TableState}
use Rattle.run_plan.specs.declared.last_command.ClaimReply.TheVariants as given
use Rattle.table_model.specs.declared.phases.JobPhase.TheVariants as job
use Rattle.table_model.specs.declared.phases.LegPhase.TheVariants as leg
use Rattle.table_model.specs.declared.phases.RunPhase.{RunPhase}
use Rattle.table_model.specs.declared.phases.RunPhase.TheVariants as run
use Rattle.table_model.specs.declared.sites.RuleSite.TheVariants.{Opening, Whole}
use Rattle.run_table.proofs.OnTables.{on_tables}
use Rattle.table_model.specs.declared.holder.Holder.TheVariants.{Leg}

-- a run of the event with this body
abbrev pub run_with : List ℕ → RunPhase → List JobState → RunState
run_with body phase jobs =
    record {
      id = 1;
      number = 1;
      admitted = record { delivery = codes "d1"; event = codes "push"; body = body };
      attempt = 1;
      phase = phase;
      stopping = false;
      jobs = jobs;
    }

abbrev run_of : RunPhase → List JobState → RunState
run_of phase jobs = run_with [] phase jobs

abbrev pub open_job : List LegState → JobState
open_job legs = record { phase = job.Open; legs = legs }

-- a live run of one open job with these legs
abbrev one_job : List LegState → RunState
one_job legs = run_of run.Live (open_job legs ∷ [])

abbrev ready_leg : LegState
ready_leg = record { phase = leg.Ready; lease = None }

abbrev failed_leg : LegState
failed_leg = record { phase = leg.Ended outcome.Failure; lease = Some 1 }

-- a new leg without a group waits, and then is ready
new_leg_becomes_ready : settled (one_job (new_leg ∷ []) ∷ []) ≡ one_job (ready_leg ∷ []) ∷ []
unfolding on_tables
new_leg_becomes_ready = refl

-- legs advance in order of their numbers, each as far as it can before the next
legs_by_number : first_rule (one_job (record { phase = leg.Waiting; lease = None } ∷ new_leg ∷ []) ∷ [])
    ≡ Some (started (Leg (record { run = 0; job = 0; leg = 0 })) (one_job (ready_leg ∷ new_leg ∷ []) ∷ []))
unfolding on_tables
legs_by_number = refl

-- a plan of one job with one leg and this continue-on-error
abbrev plan_with : Bool → List PlannedJob
plan_with set = record {
  id = codes "b";
  labels = [];
  needs = [];
  condition = condition.Success;
  continue_on_error = flag.Fixed set;
  concurrency = None;
  fail_fast = true;
  max_parallel = None;
  legs = record { combo = [] } ∷ [];
} ∷ []

-- a live run whose leg has failed
abbrev failed_live : List ℕ → RunState
failed_live body = run_with body run.Live (open_job (failed_leg ∷ []) ∷ [])

-- the same run once its job is finished
abbrev failed_ended : List ℕ → JobResult → RunState
failed_ended body r = run_with body run.Ended (record { phase = job.Finished r; legs = failed_leg ∷ [] } ∷ [])

-- the result of its job, by the plan
abbrev result_by : List ℕ → List PlannedJob → JobResult
result_by body plan =
    let values = context_at (failed_live body ∷ []) (record { run = 0; job = 0; leg = 0 }) in
    gathered (record {
      outcome = outcome.Failure;
      continue_on_error = option_map_or (λ planned. is_set_for values planned 0) (slice_get plan 0) false;
    } ∷ [])

-- a failed leg finishes its job, and the job its run
failed_leg_ends_its_run : (body : List ℕ) → plan_of body ≡ plan_with false
    → settled (failed_live body ∷ []) ≡ failed_ended body result.Failure ∷ []
failed_leg_ends_its_run body planned_so = ap (λ plan. failed_ended body (result_by body plan) ∷ []) planned_so

-- a failed leg with continue-on-error does not make its job fail
passed_over_failure_ends_its_run : (body : List ℕ) → plan_of body ≡ plan_with true
    → settled (failed_live body ∷ []) ≡ failed_ended body result.Success ∷ []
passed_over_failure_ends_its_run body planned_so = ap (λ plan. failed_ended body (result_by body plan) ∷ []) planned_so

-- a running leg keeps its job open
running_leg_rests : first_site (one_job (leased_leg 1 ∷ []) ∷ []) ≡ None
running_leg_rests = refl

-- a waiting run without a group becomes live, and none of its jobs opens before that
waiting_run_becomes_live : first_site (run_of run.Waiting (record { phase = job.Blocked; legs = [] } ∷ []) ∷ []) ≡ Some (Whole 0)
unfolding on_tables
waiting_run_becomes_live = refl

-- a blocked job of a live run opens if it needs no other
blocked_job_opens : (body : List ℕ) → needs_at (plan_graph (plan_of body)) 0 ≡ []
    → first_site (run_with body run.Live (blocked_job ∷ []) ∷ []) ≡ Some (Opening 0 0)
blocked_job_opens body needs =
    let runs = run_with body run.Live (blocked_job ∷ []) ∷ [] in
    ap (λ places. if is_some (if all_have_results (None ∷ []) places then Some
    (without_moves (with_job 0 0 (decided runs 0 0) runs)) else None)
    then Some (Opening 0 0) else None) needs

-- and waits if it needs a job that is open
blocked_job_waits : (body : List ℕ) → needs_at (plan_graph (plan_of body)) 0 ≡ 1 ∷ []
    → first_site (run_with body run.Live (blocked_job ∷ open_job (leased_leg 1 ∷ []) ∷ []) ∷ []) ≡ None
blocked_job_waits body needs =
    let runs = run_with body run.Live (blocked_job ∷ open_job (leased_leg 1 ∷ []) ∷ []) ∷ [] in
    ap (λ places. if is_some (if all_have_results (None ∷ None ∷ []) places then Some
    (without_moves (with_job 0 0 (decided runs 0 0) runs)) else None)
    then Some (Opening 0 0) else None) needs

-- with the legs of its plan
job_opens_with_its_legs : opened 2 (record { phase = job.Blocked; legs = [] }) ≡ open_job (new_leg ∷ new_leg ∷ [])
job_opens_with_its_legs = refl

-- a live, stopping run of this job
abbrev stopping_with : List ℕ → JobState → List RunState
stopping_with body job = record (run_with body run.Live (job ∷ [])) { stopping = true } ∷ []

-- the blocked job of a stopping run finishes as cancelled if its condition is false
stopping_job_is_cancelled : (body : List ℕ) → needs_have_finished (stopping_with body blocked_job) 0 0 ≡ true
    → may_run (stopping_with body blocked_job) 0 0 ≡ false
    → rule_at (stopping_with body blocked_job) (Opening 0 0)
    ≡ Some (without_moves (stopping_with body (record { phase = job.Finished result.Cancelled; legs = [] })))
stopping_job_is_cancelled body needs may =
    let runs = stopping_with body blocked_job in
    ap (λ b. if b then Some (without_moves (with_job 0 0 (decided runs 0 0) runs)) else None) needs
    ∙ ap (λ b. Some (without_moves (with_job 0 0 (if b then opened (planned_legs runs 0 0) else finished_as result.Cancelled) runs))) may

-- each rule lowers the measure: a job that finishes by one, a leg that advances by one
left_of_one_job : remaining_phases (one_job (new_leg ∷ []) ∷ []) ≡ 7
left_of_one_job = refl

abbrev claim_of : ℕ → Claimed
claim_of number = record { runner = codes "r1"; number = number; labels = codes "linux" ∷ [] }

abbrev table_with : RunnerState → TableState
table_with runner = record { last_lease = 0; forgotten = none_forgotten; runs = []; runners = runner ∷ [] }

abbrev served_nothing : RunnerState
served_nothing = claiming_runner (claim_of 1) None given.Nothing

-- an unknown runner's last number is 0
claim_out_of_sequence : step empty (command.Claim (claim_of 2)) ≡ (empty, reply.Refused (Turn 0))
claim_out_of_sequence = refl

claim_of_an_empty_table : step empty (command.Claim (claim_of 1)) ≡ (table_with served_nothing, reply.Nothing)
claim_of_an_empty_table = refl

-- the last number with the same command gets the kept reply
claim_again : step (table_with served_nothing) (command.Claim (claim_of 1)) ≡ (table_with served_nothing, reply.Nothing)
claim_again = refl

-- the last number with another command is refused
claim_changed : step (table_with served_nothing) (command.Claim (record { runner = codes "r1"; number = 1; labels = codes "gpu" ∷ [] }))
    ≡ (table_with served_nothing, reply.Refused (Turn 1))
claim_changed = refl

abbrev holding : RunnerState
holding = claiming_runner (claim_of 2) (Some 1) given.Nothing

claim_while_holding : step (table_with holding) (command.Claim (claim_of 3)) ≡ (table_with holding, refused HasLease)
claim_while_holding = refl

report_of_another_lease : step (table_with holding)
    (command.Done (record { runner = codes "r1"; number = 3; lease = 9; result = outcome.Success }))
    ≡ (table_with holding, refused LeaseNotHeld)
report_of_another_lease = refl

abbrev working : List ℕ → TableState
working body = record {
  last_lease = 1;
  forgotten = none_forgotten;
  runs = run_with body run.Live (open_job (leased_leg 1 ∷ []) ∷ []) ∷ [];
  runners = holding ∷ [];
}

abbrev failed : List ℕ → JobResult → TableState
failed body r = record {
  last_lease = 1;
  forgotten = none_forgotten;
  runs = failed_ended body r ∷ [];
  runners = reporting_runner (record { runner = codes "r1"; number = 3; lease = 1; result = outcome.Failure }) ∷ [];
}

-- whether the failure stops the other legs, by the plan
abbrev stopped_by : List ℕ → List PlannedJob → Bool
stopped_by body plan =
    let values = context_at (working body).runs (record { run = 0; job = 0; leg = 0 }) in
    option_map_or (λ planned. planned.fail_fast) (slice_get plan 0) false
    && not (option_map_or (λ planned. is_set_for values planned 0) (slice_get plan 0) false)

-- a report ends the leg of its lease, its job and its run
report_of_a_failure : (body : List ℕ) → plan_of body ≡ plan_with false
    → step (working body) (command.Done (record { runner = codes "r1"; number = 3; lease = 1; result = outcome.Failure }))
    ≡ (failed body result.Failure, reply.Ok)
report_of_a_failure body planned_so =
    ap (λ plan. (
      record {
        last_lease = 1;
        forgotten = none_forgotten;
        runs = settled (if stopped_by body plan then with_job 0 0 with_stopped_legs (failed_live body ∷ []) else failed_live body ∷ []);
        runners = reporting_runner (record { runner = codes "r1"; number = 3; lease = 1; result = outcome.Failure }) ∷ [];
      },
      reply.Ok,
    )) planned_so
    ∙ ap (λ plan. (failed body (result_by body plan), reply.Ok)) planned_so

-- the lease of a leg is found in any job
lease_is_found : site_of_lease
    (one_job (leased_leg 1 ∷ []) ∷ run_of run.Live (open_job (leased_leg 2 ∷ []) ∷ open_job (failed_leg ∷ leased_leg 3 ∷ []) ∷ []) ∷ []) 3
    ≡ Some (record { run = 1; job = 1; leg = 1 })
lease_is_found = refl

look_at_no_run : step empty (command.Look 1) ≡ (empty, refused NoRun)
look_at_no_run = refl

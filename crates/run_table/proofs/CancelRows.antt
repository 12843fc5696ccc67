-- Examples, by computation: the effect of cancel, lost and fetch on literal tables.
use Rattle.std.specs.Prelude.{◌≡◌, List, [], ◌∷◌, Bool, None, true, false, codes, refl}
use Rattle.wf_value.specs.declared.code.Code.TheVariants.{LeaseNotHeld, NoRun, NoRunner, RunCompleted}
use Rattle.wf_value.specs.declared.outcome.JobResult.TheVariants as result
use Rattle.wf_value.specs.declared.outcome.Outcome.TheVariants as outcome
use Rattle.run_plan.specs.declared.command.Claim.{Claim as Claimed}
use Rattle.run_plan.specs.declared.command.Command.TheVariants as command
use Rattle.run_plan.specs.declared.reply.Reply.TheVariants as reply
use Rattle.run_plan.specs.declared.last_command.ClaimReply.TheVariants as given
use Rattle.table_model.specs.Forgotten.{none_forgotten}
use Rattle.table_model.specs.Step.{step, empty, claiming_runner, refused}
use Rattle.table_model.specs.Runs.{blocked_job, JobState, RunState}
use Rattle.table_model.specs.Stops.{outcome_of_loss, stopped_run, stopped_where}
use Rattle.table_model.specs.TableState.{RunnerState, TableState}
use Rattle.table_model.specs.declared.phases.JobPhase.TheVariants as job
use Rattle.table_model.specs.declared.phases.LegPhase.TheVariants as leg
use Rattle.table_model.specs.declared.phases.RunPhase.{RunPhase}
use Rattle.table_model.specs.declared.phases.RunPhase.TheVariants as run
use Rattle.run_table.proofs.StepRows.{open_job}
use Rattle.run_table.proofs.ViewRows.{claimed, unclaimed}

abbrev pub run_of : RunPhase → Bool → List JobState → RunState
run_of phase stopping jobs =
    record {
      id = 1;
      number = 1;
      admitted = record { delivery = codes "d1"; event = codes "push"; body = codes "{}" };
      attempt = 1;
      phase = phase;
      stopping = stopping;
      jobs = jobs;
    }

abbrev pub cancelled_job : JobState
cancelled_job = record { phase = job.Finished result.Cancelled; legs = [] }

-- a waiting run ends, all its jobs cancelled, and its stop flag is not set
waiting_run_ends : stopped_run (run_of run.Waiting false (blocked_job ∷ blocked_job ∷ []))
    ≡ run_of run.Ended false (cancelled_job ∷ cancelled_job ∷ [])
waiting_run_ends = refl

-- a run that is stopping already stays as it is, even if a job whose condition is false has a ready leg
stopping_run_stays : stopped_run (run_of run.Live true (open_job (unclaimed leg.Ready ∷ []) ∷ []))
    ≡ run_of run.Live true (open_job (unclaimed leg.Ready ∷ []) ∷ [])
stopping_run_stays = refl

ended_run_stays : stopped_run (run_of run.Ended false (cancelled_job ∷ [])) ≡ run_of run.Ended false (cancelled_job ∷ [])
ended_run_stays = refl

-- in an open job whose condition is false, the legs without a runner end and the running ones are told to stop
legs_of_a_stopped_job : stopped_where true (open_job
    (unclaimed leg.New ∷ unclaimed leg.Waiting ∷ unclaimed leg.Ready ∷ claimed leg.Running ∷ claimed leg.Stopping ∷ claimed
    (leg.Ended outcome.Failure) ∷ []))
    ≡ open_job (unclaimed (leg.Ended outcome.Cancelled) ∷ unclaimed (leg.Ended outcome.Cancelled) ∷ unclaimed (leg.Ended outcome.Cancelled)
    ∷ claimed leg.Stopping ∷ claimed leg.Stopping ∷ claimed (leg.Ended outcome.Failure) ∷ [])
legs_of_a_stopped_job = refl

-- a blocked job waits for its decision, and a job whose condition holds goes on
blocked_job_stays : stopped_where true blocked_job ≡ blocked_job
blocked_job_stays = refl

job_goes_on : stopped_where false (open_job (unclaimed leg.Ready ∷ claimed leg.Running ∷ []))
    ≡ open_job (unclaimed leg.Ready ∷ claimed leg.Running ∷ [])
job_goes_on = refl

abbrev pub table_of : RunState → List RunnerState → TableState
table_of one runners = record { last_lease = 1; forgotten = none_forgotten; runs = one ∷ []; runners = runners }

cancel_of_no_run : step empty (command.Cancel 1) ≡ (empty, refused NoRun)
cancel_of_no_run = refl

cancel_of_an_ended_run : step (table_of (run_of run.Ended false []) []) (command.Cancel 1)
    ≡ (table_of (run_of run.Ended false []) [], refused RunCompleted)
cancel_of_an_ended_run = refl

cancel_of_a_stopping_run : step (table_of (run_of run.Live true (open_job (claimed leg.Stopping ∷ []) ∷ [])) []) (command.Cancel 1)
    ≡ (table_of (run_of run.Live true (open_job (claimed leg.Stopping ∷ []) ∷ [])) [], reply.Ok)
cancel_of_a_stopping_run = refl

cancel_of_a_waiting_run : step (table_of (run_of run.Waiting false (blocked_job ∷ [])) []) (command.Cancel 1)
    ≡ (table_of (run_of run.Ended false (cancelled_job ∷ [])) [], reply.Ok)
cancel_of_a_waiting_run = refl

-- how the leg of a lost runner ends depends on the leg, not on what its run was told
running_leg_is_lost : outcome_of_loss (run_of run.Live false (open_job (claimed leg.Running ∷ []) ∷ []) ∷ []) 1 ≡ outcome.Failure
running_leg_is_lost = refl

stopping_leg_is_lost : outcome_of_loss (run_of run.Live false (open_job (claimed leg.Stopping ∷ []) ∷ []) ∷ []) 1 ≡ outcome.Cancelled
stopping_leg_is_lost = refl

running_leg_of_a_stopping_run_is_lost : outcome_of_loss (run_of run.Live true (open_job (claimed leg.Running ∷ []) ∷ []) ∷ []) 1
    ≡ outcome.Failure
running_leg_of_a_stopping_run_is_lost = refl

abbrev claim_of_one : Claimed
claim_of_one = record { runner = codes "r1"; number = 1; labels = codes "linux" ∷ [] }

abbrev idle : RunnerState
idle = claiming_runner claim_of_one None given.Nothing

loss_of_no_runner : step empty (command.Lost (codes "r1")) ≡ (empty, refused NoRunner)
loss_of_no_runner = refl

loss_of_an_idle_runner : step (table_of (run_of run.Ended false []) (idle ∷ [])) (command.Lost (codes "r1"))
    ≡ (table_of (run_of run.Ended false []) (idle ∷ []), refused LeaseNotHeld)
loss_of_an_idle_runner = refl

fetched : step (table_of (run_of run.Ended false []) []) (command.Fetch 1)
    ≡ (table_of (run_of run.Ended false []) [], reply.Body (codes "{}"))
fetched = refl

fetch_of_no_run : step (table_of (run_of run.Ended false []) []) (command.Fetch 2)
    ≡ (table_of (run_of run.Ended false []) [], refused NoRun)
fetch_of_no_run = refl

-- Examples, by computation: the effect of a re-run on literal tables.
use Rattle.std.specs.Prelude.{◌≡◌, ℕ, [], ◌∷◌, map, true, false, codes, refl}
use Rattle.wf_value.specs.declared.code.Code.TheVariants.{LastCounter, NoRun, RunNotCompleted}
use Rattle.wf_value.specs.declared.refusal.Refusal.TheVariants.{Turn}
use Rattle.run_plan.specs.PlanOf.{plan_of}
use Rattle.run_plan.specs.declared.command.Attempt.{Attempt}
use Rattle.run_plan.specs.declared.command.Command.TheVariants as command
use Rattle.run_plan.specs.declared.reply.Reply.TheVariants as reply
use Rattle.table_model.specs.Step.{empty, refused, step}
use Rattle.table_model.specs.TableState.{TableState}
use Rattle.table_model.specs.Runs.{again, blocked_job}
use Rattle.table_model.specs.declared.phases.RunPhase.{RunPhase}
use Rattle.table_model.specs.declared.phases.RunPhase.TheVariants as run
use Rattle.run_table.proofs.CancelRows.{cancelled_job, run_of, table_of}

abbrev attempt_of : ℕ → ℕ → Attempt
attempt_of id attempt = record { run = id; attempt = attempt }

-- a run at an attempt, with one job that was cancelled
abbrev at_attempt : ℕ → RunPhase → TableState
at_attempt attempt phase = table_of (record (run_of phase false (cancelled_job ∷ [])) { attempt = attempt }) []

rerun_of_no_run : step empty (command.Rerun (attempt_of 1 2)) ≡ (empty, refused NoRun)
rerun_of_no_run = refl

-- the current attempt has begun, whether it is in progress or not
present_attempt : step (at_attempt 2 run.Live) (command.Rerun (attempt_of 1 2)) ≡ (at_attempt 2 run.Live, reply.Again (attempt_of 1 2))
present_attempt = refl

attempt_before : step (at_attempt 2 run.Ended) (command.Rerun (attempt_of 1 1)) ≡ (at_attempt 2 run.Ended, reply.Refused (Turn 2))
attempt_before = refl

attempt_after_the_next : step (at_attempt 2 run.Ended) (command.Rerun (attempt_of 1 4)) ≡ (at_attempt 2 run.Ended, reply.Refused (Turn 2))
attempt_after_the_next = refl

-- the checks in order: an attempt out of sequence, the last attempt, and whether the run has completed
none_after_the_last : step (at_attempt 1000 run.Live) (command.Rerun (attempt_of 1 1001)) ≡ (at_attempt 1000 run.Live, refused LastCounter)
none_after_the_last = refl

run_that_goes_on : step (at_attempt 2 run.Live) (command.Rerun (attempt_of 1 3)) ≡ (at_attempt 2 run.Live, refused RunNotCompleted)
run_that_goes_on = refl

run_that_waits : step (at_attempt 2 run.Waiting) (command.Rerun (attempt_of 1 3)) ≡ (at_attempt 2 run.Waiting, refused RunNotCompleted)
run_that_waits = refl

-- the next attempt has blocked jobs without legs, and is not stopping
stopped_run_begins_again : again (run_of run.Ended true (cancelled_job ∷ []))
    ≡ record (run_of run.Waiting false (map (λ _. blocked_job) (plan_of (codes "{}")))) { attempt = 2 }
stopped_run_begins_again = refl

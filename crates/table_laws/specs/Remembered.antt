-- What a table remembers: which run the delivery of an event made, the attempt of each run, and a runner's last command with its reply.
-- GitHub Docs, "Best practices for using webhooks": a redelivery has the id of the delivery (X-GitHub-Delivery). "Contexts reference",
-- github.run_attempt: it grows by 1 with each re-run. This project defines that a delivery makes no second run, that a repeated re-run
-- makes no second attempt, and what is kept about a runner.
use Rattle.std.specs.Prelude.{◌≡◌, ℕ, ◌+◌, ◌<◌, List, [], ◌∷◌, nat_le, nat_lt, Option, Some, option_map, if◌then◌else◌}
use Rattle.run_plan.specs.LastCommand.{kept_reply}
use Rattle.run_plan.specs.declared.command.Attempt.{Attempt}
use Rattle.run_plan.specs.declared.command.Command.{Command}
use Rattle.run_plan.specs.declared.command.Command.TheVariants as command
use Rattle.run_plan.specs.declared.last_command.LastCommand.{LastCommand}
use Rattle.run_plan.specs.declared.last_command.LastCommand.TheVariants as last
use Rattle.run_plan.specs.declared.reply.Reply.{Reply}
use Rattle.run_plan.specs.declared.reply.Reply.TheVariants as reply
use Rattle.table_model.specs.Forgotten.{max_kept_deliveries}
use Rattle.table_model.specs.TableState.{RunnerState, TableState, run_of_delivery, run_with, runner_named}
use Rattle.table_laws.specs.ExactlyOnce.{HasNumber, IsRefused}

-- ---- a delivery

-- The table knows that the delivery made the run with this id, which may be forgotten by now.
abbrev pub KnowsDelivery : TableState → List ℕ → ℕ → Type 0
KnowsDelivery t delivery run = run_of_delivery t delivery ≡ Some run

-- The delivery of the run with this id is kept: the run is not forgotten, or it is one of the last forgotten ones.
abbrev pub KeepsDeliveryOf : TableState → ℕ → Type 0
KeepsDeliveryOf t run = t.forgotten.through < run + max_kept_deliveries

-- ---- an attempt

-- the attempt of the run with an id
abbrev pub attempt_of_run : TableState → ℕ → Option ℕ
attempt_of_run t run = option_map (λ x. x.attempt) (run_with t run)

-- The table knows that this is the present attempt of the run.
abbrev pub KnowsAttempt : TableState → ℕ → ℕ → Type 0
KnowsAttempt t run attempt = attempt_of_run t run ≡ Some attempt

-- the run with this id is not forgotten
abbrev pub IsNotForgotten : TableState → ℕ → Type 0
IsNotForgotten t run = t.forgotten.through < run

-- This command, with this reply, began no attempt of the run other than `attempt`: if it asked for another one, it was refused.
abbrev pub IsNoOtherAttempt : ℕ → ℕ → Command → Reply → Type 0
IsNoOtherAttempt run attempt c given =
    (requested : Attempt) → c ≡ command.Rerun requested → requested.run ≡ run → (requested.attempt ≡ attempt → ⊥) → IsRefused given

-- each of these commands, with its reply, began no other attempt of the run
abbrev pub AreNoOtherAttempts : ℕ → ℕ → List Command → List Reply → Type 0
AreNoOtherAttempts run attempt [] given = Unit {0}
AreNoOtherAttempts run attempt (c ∷ cs) [] = Unit {0}
AreNoOtherAttempts run attempt (c ∷ cs) (y ∷ ys) = IsNoOtherAttempt run attempt c y × AreNoOtherAttempts run attempt cs ys

-- ---- a runner's last command

-- the numbered command that is kept for a runner
abbrev pub kept_command : LastCommand → Command
kept_command (last.Claim claim given) = command.Claim claim
kept_command (last.Done report) = command.Done report

-- The runner's last command is this one, with the runner's number, and this reply is kept for it.
pub record LastCommandIs (t : TableState) (name : List ℕ) (c : Command) (reply : Reply) : Type 0 where
  pub runner : RunnerState
  pub known : runner_named t.runners name ≡ Some runner
  pub last_is : kept_command runner.last ≡ c
  pub is_numbered : HasNumber c name runner.number
  pub kept : kept_reply runner.last ≡ reply

-- a kept reply once the runs with ids through this one are forgotten: a lease of one of them is over
abbrev pub reply_without : ℕ → Reply → Reply
reply_without through (reply.Lease lease) = if nat_le lease.run through then reply.Nothing else reply.Lease lease
reply_without through given = given

-- a reply that one table keeps, in a later one, which may have forgotten more runs
abbrev pub reply_then : TableState → TableState → Reply → Reply
reply_then t next given =
    if nat_lt t.forgotten.through next.forgotten.through then reply_without next.forgotten.through given else given

-- ---- until a later command of the runner is carried out, or the runner is discharged

-- this command, with this reply, was not carried out for the runner with a later number: if it has one, it was refused
abbrev pub IsNoLaterNumber : List ℕ → ℕ → Command → Reply → Type 0
IsNoLaterNumber runner number c reply = (n : ℕ) → HasNumber c runner n → number < n → IsRefused reply

-- each of these commands, with its reply, was not carried out for the runner with a later number
abbrev pub AreNoLaterNumbers : List ℕ → ℕ → List Command → List Reply → Type 0
AreNoLaterNumbers runner number [] replies = Unit {0}
AreNoLaterNumbers runner number (c ∷ cs) [] = Unit {0}
AreNoLaterNumbers runner number (c ∷ cs) (y ∷ ys) = IsNoLaterNumber runner number c y × AreNoLaterNumbers runner number cs ys

-- this command, with this reply, did not discharge the runner: if it asked for that, it was refused
abbrev pub IsNoDischarge : List ℕ → Command → Reply → Type 0
IsNoDischarge runner c given = c ≡ command.Discharge runner → IsRefused given

-- each of these commands, with its reply, did not discharge the runner
abbrev pub AreNoDischarges : List ℕ → List Command → List Reply → Type 0
AreNoDischarges runner [] replies = Unit {0}
AreNoDischarges runner (c ∷ cs) [] = Unit {0}
AreNoDischarges runner (c ∷ cs) (y ∷ ys) = IsNoDischarge runner c y × AreNoDischarges runner cs ys

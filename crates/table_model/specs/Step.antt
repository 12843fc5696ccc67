-- One step of the table, and the steps of a sequence of commands.
use Rattle.std.specs.Prelude.{ℕ, ◌+◌, ◌&&◌, ◌||◌, List, [], ◌∷◌, ◌++◌, length, map, take, drop, Bool, true, false, not, is_some, nat_eq}
use Rattle.std.specs.Prelude.{nat_le, Option, Some, None, option_map, if◌then◌else◌}
use Rattle.std.specs.List.{prefix_len}
use Rattle.std.specs.Option.{option_or, option_map_or}
use Rattle.definitions.specs.Limits.{last_attempt, last_number, max_runs}
use Rattle.wf_value.specs.declared.code.Code.{Code}
use Rattle.wf_value.specs.declared.code.Code.TheVariants.{HasLease, LeaseNotHeld, LastCounter, NoRun, NoRunner, RunCompleted}
use Rattle.wf_value.specs.declared.code.Code.TheVariants.{RunNotCompleted}
use Rattle.wf_value.specs.declared.refusal.Refusal.TheVariants.{Numbered, Turn}
use Rattle.definitions.specs.SmallText.{Admitted}
use Rattle.run_plan.specs.LastCommand.{is_last_claim, is_last_report}
use Rattle.run_plan.specs.ReplyText.{carries_text}
use Rattle.run_plan.specs.declared.command.Attempt.{Attempt}
use Rattle.run_plan.specs.declared.command.Beat.{Beat as Requested}
use Rattle.run_plan.specs.declared.command.Claim.{Claim as Claimed}
use Rattle.run_plan.specs.declared.command.Done.{Done as Reported}
use Rattle.run_plan.specs.declared.command.Command.{Command}
use Rattle.run_plan.specs.declared.command.Command.TheVariants as command
use Rattle.run_plan.specs.declared.reply.Lease.{Lease as Leased}
use Rattle.run_plan.specs.declared.reply.Reply.{Reply}
use Rattle.run_plan.specs.declared.reply.Reply.TheVariants as reply
use Rattle.table_model.specs.Settling.{arrived, settled, settling_moves}
use Rattle.table_model.specs.Fitting.{first_fit, is_lease_stopping}
use Rattle.table_model.specs.GroupLaw.{Move, Transition}
use Rattle.table_model.specs.TableState.{Step, RunnerState, TableState, runner_named, answer_by_number, with_runner, holds_lease, holds_this}
use Rattle.table_model.specs.TableState.{index_of, last_id, run_of_delivery, run_with, without_runner}
use Rattle.table_model.specs.Forgotten.{next_run, none_forgotten, with_forgotten}
use Rattle.table_model.specs.Runs.{run_at, with_leg, with_run, RunState, again, leased_leg}
use Rattle.table_model.specs.declared.sites.LegSite.{LegSite}
use Rattle.table_model.specs.Stops.{stop_holder, with_ended, lease_end_moves, outcome_of_loss}
use Rattle.table_model.specs.ViewText.{Seen, seen_of, seen_text}
use Rattle.table_model.specs.LegContext.{job_id, combo_at, id_at}
use Rattle.run_plan.specs.declared.last_command.LastCommand.{LastCommand}
use Rattle.run_plan.specs.declared.last_command.LastCommand.TheVariants as last
use Rattle.run_plan.specs.declared.last_command.ClaimReply.{ClaimReply}
use Rattle.run_plan.specs.declared.last_command.ClaimReply.TheVariants as given
use Rattle.run_plan.specs.declared.last_command.KeptLease.{KeptLease}
use Rattle.table_model.specs.declared.phases.RunPhase.{RunPhase}
use Rattle.table_model.specs.declared.phases.RunPhase.TheVariants as run
use Rattle.table_model.specs.declared.holder.Holder.TheVariants.{Run}

-- ---- one step of the table: the reply to a command, the table after it, and the group moves on the way. Some commands
-- leave the table unchanged: those that are refused, in the order of their checks, a known delivery, an attempt that
-- has begun, a repeated command, a heartbeat, a look or a fetch, and a `forget` that finds no run to forget. The others
-- change the table and then settle it; the moves of their own change come first. A `forget` and a `discharge` change no
-- run that stays, so nothing settles after them.

-- a table without runs or runners
abbrev pub empty : TableState
empty = record { last_lease = 0; forgotten = none_forgotten; runs = []; runners = [] }

abbrev pub refused : Code → Reply
refused code = reply.Refused (Numbered code)

-- the table unchanged, with a reply
abbrev pub unchanged : TableState → Reply → Step
unchanged t reply = record { table = t; reply = reply; moves = [] }

-- the table at a fixpoint, with a reply, after these moves
abbrev pub at_rest_after : List Move → TableState → Reply → Step
at_rest_after moves t reply = record { table = record t { runs = settled t.runs }; reply = reply; moves = moves ++ settling_moves t.runs }

-- the same without moves before
abbrev pub at_rest : TableState → Reply → Step
at_rest t reply = at_rest_after [] t reply

-- ---- admit

-- the table has as many runs as it may have, or the last id is used up
abbrev pub is_full : TableState → Bool
is_full t = nat_le max_runs (length t.runs) || nat_le last_number (last_id t)

-- a delivery that is known makes no second run
abbrev pub admission_answer : TableState → Admitted → Option Reply
admission_answer t event =
    option_or (option_map (λ id. reply.Created id) (run_of_delivery t event.delivery))
    (if is_full t then Some (refused LastCounter) else None)

-- the new run arrives in its group
abbrev pub entered : TableState → Admitted → Transition
entered t event = arrived (Run (length t.runs)) (t.runs ++ next_run t.forgotten t.runs event ∷ [])

abbrev pub admitting : TableState → Admitted → Step
admitting t event =
    at_rest_after (entered t event).moves (record t { runs = (entered t event).runs }) (reply.Created (last_id t + 1))

abbrev pub admitted : TableState → Admitted → Step
admitted t event = option_map_or (unchanged t) (admission_answer t event) (admitting t event)

-- ---- claim

-- a leg fits, but the last lease number is used up
abbrev pub has_no_lease_left : TableState → Claimed → Bool
has_no_lease_left t claim = is_some (first_fit claim.labels t.runs) && nat_le last_number t.last_lease

abbrev pub lease_answer : TableState → Claimed → Option Reply
lease_answer t claim = if has_no_lease_left t claim then Some (refused LastCounter) else None

abbrev pub claim_answer : TableState → Claimed → Option Reply
claim_answer t claim =
    option_or (answer_by_number (runner_named t.runners claim.runner) claim.number (is_last_claim claim))
    (if holds_lease (runner_named t.runners claim.runner) then Some (refused HasLease) else lease_answer t claim)

-- the record of a runner after its claim
abbrev pub claiming_runner : Claimed → Option ℕ → ClaimReply → RunnerState
claiming_runner claim holds given = record { name = claim.runner; number = claim.number; last = last.Claim claim given; holds = holds }

-- the lease as it is sent to the runner that gets the leg
abbrev pub lease_at : List RunState → LegSite → ℕ → Leased
lease_at runs p lease = record { lease = lease; run = id_at runs p.run; job = job_id runs p.run p.job; leg = p.leg; combo = combo_at runs p }

-- its kept form: the lease as sent, the attempt of the leg's run in which it was granted, and the job's index
abbrev pub kept_lease : List RunState → ℕ → LegSite → ℕ → KeptLease
kept_lease runs attempt p lease = record { lease_reply = lease_at runs p lease; attempt = attempt; job = p.job }

-- a kept lease of the run's current attempt
abbrev pub kept_lease_at : List RunState → LegSite → ℕ → KeptLease
kept_lease_at runs p lease = kept_lease runs (option_map_or (λ x. x.attempt) (run_at runs p.run) 0) p lease

-- the leg runs under the lease after the last
abbrev pub leasing : TableState → Claimed → LegSite → Step
leasing t claim p =
    let lease = t.last_lease + 1 in
    let lease_reply = lease_at t.runs p lease in
    at_rest (record t {
      last_lease = lease;
      runs = with_leg p (λ _. leased_leg lease) t.runs;
      runners =
          with_runner t.runners (claiming_runner claim (Some lease) (given.Lease (kept_lease_at t.runs p lease)));
    }) (reply.Lease lease_reply)

-- no leg fits
abbrev pub serving_nothing : TableState → Claimed → Step
serving_nothing t claim = at_rest (record t { runners = with_runner t.runners (claiming_runner claim None given.Nothing) }) reply.Nothing

abbrev pub claiming : TableState → Claimed → Step
claiming t claim = option_map_or (leasing t claim) (first_fit claim.labels t.runs) (serving_nothing t claim)

abbrev pub claimed : TableState → Claimed → Step
claimed t claim = option_map_or (unchanged t) (claim_answer t claim) (claiming t claim)

-- ---- done

abbrev pub report_answer : TableState → Reported → Option Reply
report_answer t report =
    option_or (answer_by_number (runner_named t.runners report.runner) report.number (is_last_report report))
    (if holds_this report.lease (runner_named t.runners report.runner) then None else Some (refused LeaseNotHeld))

-- the record of a runner after its report
abbrev pub reporting_runner : Reported → RunnerState
reporting_runner report = record { name = report.runner; number = report.number; last = last.Done report; holds = None }

abbrev pub reporting : TableState → Reported → Step
reporting t report =
    at_rest_after (lease_end_moves report.lease report.result t.runs) (record t {
      runs = with_ended report.lease report.result t.runs;
      runners =
          with_runner t.runners (reporting_runner report);
    }) reply.Ok

abbrev pub reported : TableState → Reported → Step
reported t report = option_map_or (unchanged t) (report_answer t report) (reporting t report)

-- ---- beat

-- a runner that holds the lease is told whether to stop its leg
abbrev pub beat_answer : TableState → Requested → Reply
beat_answer t beat =
    option_map_or (λ runner.
    if holds_this beat.lease (Some runner)
    then (if is_lease_stopping t.runs beat.lease then reply.Stop else reply.GoOn)
    else refused LeaseNotHeld) (runner_named t.runners beat.runner) (refused NoRunner)

-- ---- cancel

abbrev pub answer_of_run : RunPhase → Bool → Option Reply
answer_of_run run.Waiting stopping = None
answer_of_run run.Live stopping = if stopping then Some reply.Ok else None
answer_of_run run.Ended stopping = Some (refused RunCompleted)

-- a run that is stopping already stays as it is
abbrev pub cancel_answer : TableState → ℕ → Option Reply
cancel_answer t id = option_map_or (λ run. answer_of_run run.phase run.stopping) (run_with t id) (Some (refused NoRun))

abbrev pub cancelling : TableState → ℕ → Step
cancelling t id =
    let stopped = stop_holder (Run (index_of t id)) t.runs in at_rest_after stopped.moves (record t { runs = stopped.runs }) reply.Ok

abbrev pub cancelled : TableState → ℕ → Step
cancelled t id = option_map_or (unchanged t) (cancel_answer t id) (cancelling t id)

-- ---- rerun: GitHub Docs, "Re-running workflows and jobs"; this project defines which attempt a command names, and the largest one

abbrev pub has_completed : RunPhase → Bool
has_completed run.Waiting = false
has_completed run.Live = false
has_completed run.Ended = true

-- why the next attempt of a run may not begin, if it may not
abbrev pub answer_of_next : RunState → Option Reply
answer_of_next x =
    if nat_le last_attempt x.attempt then Some (refused LastCounter)
    else (if has_completed x.phase then None else Some (refused RunNotCompleted))

-- The current attempt has begun already. Of the others, only the next may begin.
abbrev pub answer_of_attempt : RunState → Attempt → Option Reply
answer_of_attempt x requested =
    if nat_eq requested.attempt x.attempt then Some (reply.Again requested)
    else (if nat_eq requested.attempt (x.attempt + 1) then answer_of_next x else Some (reply.Refused (Turn x.attempt)))

abbrev pub rerun_answer : TableState → Attempt → Option Reply
rerun_answer t requested = option_map_or (λ x. answer_of_attempt x requested) (run_with t requested.run) (Some (refused NoRun))

-- the run, in its next attempt, arrives in its group again
abbrev pub entered_again : TableState → ℕ → Transition
entered_again t r = arrived (Run r) (with_run r again t.runs)

abbrev pub rerunning : TableState → Attempt → Step
rerunning t requested =
    let begun = entered_again t (index_of t requested.run) in at_rest_after begun.moves (record t { runs = begun.runs }) (reply.Again requested)

abbrev pub rerun : TableState → Attempt → Step
rerun t requested = option_map_or (unchanged t) (rerun_answer t requested) (rerunning t requested)

-- ---- lost

abbrev pub loss_answer : TableState → List ℕ → Option Reply
loss_answer t name =
    option_map_or (λ runner. if is_some runner.holds then None else Some (refused LeaseNotHeld)) (runner_named t.runners name)
    (Some (refused NoRunner))

-- the runner holds no lease; its last command and the kept reply stay
abbrev pub released : RunnerState → RunnerState
released runner = record runner { holds = None }

-- the leg of the lease ends, and the entry of its runner is replaced
abbrev pub losing : TableState → RunnerState → ℕ → Step
losing t runner lease =
    at_rest_after (lease_end_moves lease (outcome_of_loss t.runs lease) t.runs) (record t {
      runs = with_ended lease (outcome_of_loss t.runs lease) t.runs;
      runners =
          with_runner t.runners runner;
    }) reply.Ok

abbrev pub lost : TableState → List ℕ → Step
lost t name =
    option_map_or (λ runner. option_map_or (losing t (released runner)) runner.holds (unchanged t (refused LeaseNotHeld)))
    (runner_named t.runners name) (unchanged t (refused NoRunner))

-- ---- fetch

abbrev pub fetch_answer : TableState → ℕ → Reply
fetch_answer t id = option_map_or (λ run. reply.Body run.admitted.body) (run_with t id) (refused NoRun)

-- ---- look

-- the view of the run with an id
abbrev pub seen : TableState → ℕ → Option Seen
seen t id = option_map seen_of (run_with t id)

abbrev pub look_answer : TableState → ℕ → Reply
look_answer t id = option_map_or (λ seen. reply.Run (seen_text seen)) (seen t id) (refused NoRun)

-- ---- forget: the first runs that have completed, as many as follow one another and have ids up to the one that is given. This project
-- defines it.

-- a run that has completed and whose id is up to this one
abbrev pub is_forgettable : ℕ → RunState → Bool
is_forgettable id run = has_completed run.phase && nat_le run.id id

-- how many of the first runs are
abbrev pub forgettable : TableState → ℕ → ℕ
forgettable t id = prefix_len (is_forgettable id) t.runs

-- a lease of a forgotten run is no longer a reply: its leg has ended
abbrev pub reply_through : ℕ → ClaimReply → ClaimReply
reply_through through given.Nothing = given.Nothing
reply_through through (given.Lease kept) = if nat_le kept.lease_reply.run through then given.Nothing else given.Lease kept

abbrev pub last_through : ℕ → LastCommand → LastCommand
last_through through (last.Claim claim given) = last.Claim claim (reply_through through given)
last_through through (last.Done report) = last.Done report

-- the runner, once the runs with ids through this one are forgotten
abbrev pub runner_through : ℕ → RunnerState → RunnerState
runner_through through runner = record runner { last = last_through through runner.last }

-- the table without its first runs, which are forgotten
abbrev pub without : ℕ → TableState → TableState
without k t =
    let forgotten = with_forgotten t.forgotten (take k t.runs) in record t {
      forgotten = forgotten;
      runs = drop k t.runs;
      runners = map (runner_through forgotten.through) t.runners;
    }

-- no run is to be forgotten
abbrev pub forget_answer : TableState → ℕ → Option Reply
forget_answer t id = if nat_eq (forgettable t id) 0 then Some (reply.Forgotten t.forgotten.through) else None

abbrev pub forgetting : TableState → ℕ → Step
forgetting t id =
    let next = without (forgettable t id) t in record { table = next; reply = reply.Forgotten next.forgotten.through; moves = [] }

abbrev pub forgot : TableState → ℕ → Step
forgot t id = option_map_or (unchanged t) (forget_answer t id) (forgetting t id)

-- ---- discharge: a runner is forgotten. This project defines it.

-- a runner that holds a lease stays
abbrev pub discharge_answer : TableState → List ℕ → Option Reply
discharge_answer t name =
    option_map_or (λ runner. if is_some runner.holds then Some (refused HasLease) else None) (runner_named t.runners name)
    (Some (refused NoRunner))

abbrev pub discharging : TableState → List ℕ → Step
discharging t name = record { table = record t { runners = without_runner t.runners name }; reply = reply.Ok; moves = [] }

abbrev pub discharged : TableState → List ℕ → Step
discharged t name = option_map_or (unchanged t) (discharge_answer t name) (discharging t name)

-- ---- all commands

abbrev pub stepped : TableState → Command → Step
stepped t (command.Admit event) = admitted t event
stepped t (command.Claim claim) = claimed t claim
stepped t (command.Done report) = reported t report
stepped t (command.Beat beat) = unchanged t (beat_answer t beat)
stepped t (command.Cancel id) = cancelled t id
stepped t (command.Lost name) = lost t name
stepped t (command.Fetch id) = unchanged t (fetch_answer t id)
stepped t (command.Look id) = unchanged t (look_answer t id)
stepped t (command.Rerun requested) = rerun t requested
stepped t (command.Forget id) = forgot t id
stepped t (command.Discharge name) = discharged t name

-- the table after the command, and its reply
abbrev pub outcome : Step → TableState × Reply
outcome s = (s.table, s.reply)

abbrev pub step : TableState → Command → TableState × Reply
step t c = outcome (stepped t c)

-- ---- commands that leave the table unchanged

-- the reply to a command that leaves the table unchanged
abbrev pub read_only_reply : TableState → Command → Option Reply
read_only_reply t (command.Admit event) = admission_answer t event
read_only_reply t (command.Claim claim) = claim_answer t claim
read_only_reply t (command.Done report) = report_answer t report
read_only_reply t (command.Beat beat) = Some (beat_answer t beat)
read_only_reply t (command.Cancel id) = cancel_answer t id
read_only_reply t (command.Lost name) = loss_answer t name
read_only_reply t (command.Fetch id) = Some (fetch_answer t id)
read_only_reply t (command.Look id) = Some (look_answer t id)
read_only_reply t (command.Rerun requested) = rerun_answer t requested
read_only_reply t (command.Forget id) = forget_answer t id
read_only_reply t (command.Discharge name) = discharge_answer t name

-- whether there is a reply and it holds no text, so that it needs no memory
abbrev pub is_allocation_free : Option Reply → Bool
is_allocation_free answer = option_map_or (λ reply. not (carries_text reply)) answer false

-- ---- sequences of commands: the table after them, and the reply to each.

-- the table after all of them
abbrev pub after : TableState → List Command → TableState
after t [] = t
after t (c ∷ cs) = after (stepped t c).table cs

abbrev pub replies : TableState → List Command → List Reply
replies t [] = []
replies t (c ∷ cs) = (stepped t c).reply ∷ replies (stepped t c).table cs

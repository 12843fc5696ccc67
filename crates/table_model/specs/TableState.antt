-- A table, and the sequence of its runners' numbered commands.
use Rattle.std.specs.Prelude.{ℕ, List, Option, ◌+◌, ◌-◌, ◌&&◌, ◌∷◌, ◌++◌, filter, find, length, Bool, false, nat_eq, nat_le, not, is_some}
use Rattle.std.specs.Prelude.{Some, None, option_map, if◌then◌else◌}
use Rattle.std.specs.List.{position}
use Rattle.run_plan.specs.declared.last_command.LastCommand.{LastCommand}
use Rattle.table_model.specs.Forgotten.{ForgottenRuns, deliveries_of}
use Rattle.table_model.specs.Runs.{RunState, run_at}
use Rattle.run_plan.specs.declared.reply.Reply.{Reply}
use Rattle.table_model.specs.GroupLaw.{Move}
use Rattle.std.specs.Cmp.Lexicographic.{slice_cmp}
use Rattle.std.specs.Option.{option_map_or}
use Rattle.std.specs.Ordering.{is_lt, nat_cmp}
use Rattle.std.specs.Str.{bytes_eq}
use Rattle.definitions.specs.Rising.{rises_by}
use Rattle.wf_value.specs.declared.refusal.Refusal.TheVariants.{Turn}
use Rattle.run_plan.specs.LastCommand.{kept_reply}
use Rattle.run_plan.specs.ReplyText.{carries_text}
use Rattle.run_plan.specs.declared.reply.Reply.TheVariants as reply

-- ---- a table as contracts see it: the last lease, what is kept of forgotten runs, the other runs in the order of their ids, and the known
-- runners.

-- a runner: its last numbered command with the kept reply, and the lease that it holds
pub record RunnerState : Type 0 where
  pub name : List ℕ
  pub number : ℕ
  pub last : LastCommand
  pub holds : Option ℕ

pub record TableState : Type 0 where
  pub last_lease : ℕ
  pub forgotten : ForgottenRuns
  pub runs : List RunState
  pub runners : List RunnerState

-- the result of a command: the table after it, its reply, and the group moves on the way
pub record Step : Type 0 where
  pub table : TableState
  pub reply : Reply
  pub moves : List Move

-- ---- ids and deliveries. The ids of the runs go on from the last one that is forgotten.

-- the id of the last run
abbrev pub last_id : TableState → ℕ
last_id t = t.forgotten.through + length t.runs

-- the index of the run with an id
abbrev pub index_of : TableState → ℕ → ℕ
index_of t id = id - t.forgotten.through - 1

-- the run with an id; none if it is forgotten
abbrev pub run_with : TableState → ℕ → Option RunState
run_with t id = if nat_le id t.forgotten.through then None else run_at t.runs (index_of t id)

-- the deliveries that are known, in the order of the ids of their runs: the kept ones, and those of the runs
abbrev pub known_deliveries : TableState → List (List ℕ)
known_deliveries t = t.forgotten.deliveries ++ deliveries_of t.runs

-- the id of the run that a delivery made, if it is known
abbrev pub run_of_delivery : TableState → List ℕ → Option ℕ
run_of_delivery t delivery =
    option_map (λ i. t.forgotten.through - length t.forgotten.deliveries + i + 1)
    (position (λ known. bytes_eq known delivery) (known_deliveries t))

-- ---- the sequence of a runner's numbered commands. Each has the number after the last, or repeats the last one and gets
-- the kept reply.

abbrev pub is_named : List ℕ → RunnerState → Bool
is_named name runner = bytes_eq runner.name name

abbrev pub runner_named : List RunnerState → List ℕ → Option RunnerState
runner_named runners name = find (is_named name) runners

-- an unknown runner's last number is 0
abbrev pub number_of : Option RunnerState → ℕ
number_of runner = option_map_or (λ r. r.number) runner 0

-- whether a command with this number, which passes the test, repeats the runner's last
abbrev pub is_repeated : ℕ → (LastCommand → Bool) → RunnerState → Bool
is_repeated number same runner = nat_eq runner.number number && same runner.last

-- a refusal if the number is not the one after the last
abbrev pub number_refusal : ℕ → ℕ → Option Reply
number_refusal last number = if nat_eq number (last + 1) then None else Some (reply.Refused (Turn last))

-- The reply to a command that follows from its number alone: the kept reply if it repeats the runner's last command,
-- which the test decides, and a refusal if its number is not the next.
abbrev pub answer_by_number : Option RunnerState → ℕ → (LastCommand → Bool) → Option Reply
answer_by_number runner number same =
    if option_map_or (is_repeated number same) runner false
    then option_map (λ r. kept_reply r.last) runner
    else number_refusal (number_of runner) number

-- whether an answer holds a text, which needs memory
abbrev pub needs_text : Option Reply → Bool
needs_text answer = option_map_or carries_text answer false

-- the runner, if it has the name
abbrev pub kept_named : List ℕ → RunnerState → Option RunnerState
kept_named name runner = if is_named name runner then Some runner else None

-- ---- runners in the order of their names

-- names strictly increase in byte order, so no two runners have the same name
abbrev pub names_rise : List RunnerState → Bool
names_rise runners = rises_by (λ r. r.name) runners

abbrev pub is_below : List ℕ → RunnerState → Bool
is_below name runner = is_lt (slice_cmp nat_cmp runner.name name)

abbrev pub is_above : List ℕ → RunnerState → Bool
is_above name runner = is_lt (slice_cmp nat_cmp name runner.name)

-- the runners below it, the runner in place of any of the same name, and the runners above it
abbrev pub with_runner : List RunnerState → RunnerState → List RunnerState
with_runner runners runner = filter (is_below runner.name) runners ++ runner ∷ filter (is_above runner.name) runners

-- the runners without the one of a name
abbrev pub without_runner : List RunnerState → List ℕ → List RunnerState
without_runner runners name = filter (λ runner. not (is_named name runner)) runners

-- ---- what a runner holds

abbrev pub holds_lease : Option RunnerState → Bool
holds_lease runner = option_map_or (λ r. is_some r.holds) runner false

abbrev pub holds_this : ℕ → Option RunnerState → Bool
holds_this lease runner = option_map_or (λ r. option_map_or (λ held. nat_eq held lease) r.holds false) runner false

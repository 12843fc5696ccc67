-- The lines of changes: entries of the history, and runs and legs as they are after a commit. The format is defined by this project.
use Rattle.std.specs.Prelude.{ℕ, List, ◌++◌, codes, decimal, length, map}
use Rattle.wf_value.specs.ScalarValue.{outcome_word}
use Rattle.wf_reader.specs.Event.{event_of}
use Rattle.definitions.specs.SmallText.{Admitted}
use Rattle.run_plan.specs.ReplyText.{reply_text}
use Rattle.run_plan.specs.declared.command.Attempt.{Attempt}
use Rattle.run_plan.specs.declared.command.Beat.{Beat}
use Rattle.run_plan.specs.declared.command.Claim.{Claim}
use Rattle.run_plan.specs.declared.command.Command.{Command}
use Rattle.run_plan.specs.declared.command.Command.TheVariants as command
use Rattle.run_plan.specs.declared.command.Done.{Done}
use Rattle.run_plan.specs.declared.reply.Reply.{Reply}
use Rattle.run_plan.specs.declared.reply.Reply.TheVariants as reply
use Rattle.table_model.specs.Runs.{RunState}
use Rattle.table_model.specs.TableState.{TableState}
use Rattle.table_model.specs.ViewText.{Seen, leg_text}
use Rattle.table_views.specs.Members.{member, number_or_null, text_or_null}
use Rattle.table_views.specs.RunRows.{run_members, state_members}
use Rattle.table_views.specs.Texts.{line, listed, quoted}
use Rattle.table_views.specs.declared.told_legs.LegNews.{LegNews}

-- ---- commands, without a body

-- the start of a command: its name
abbrev pub named : List ℕ → List ℕ
named name = codes "{\"name\":\"" ++ name ++ codes "\""

abbrev pub admit_json : Admitted → List ℕ
admit_json event =
    named (codes "admit") ++ member (codes "delivery") (quoted event.delivery) ++ member (codes "event") (quoted event.event)
    ++ member (codes "repository") (quoted (event_of event.body).repo) ++ member (codes "path") (quoted (event_of event.body).path) ++ codes "}"

abbrev pub claim_json : Claim → List ℕ
claim_json claim =
    named (codes "claim") ++ member (codes "runner") (quoted claim.runner) ++ member (codes "number") (decimal claim.number)
    ++ member (codes "labels") (listed (map quoted claim.labels)) ++ codes "}"

abbrev pub done_json : Done → List ℕ
done_json done =
    named (codes "done") ++ member (codes "runner") (quoted done.runner) ++ member (codes "number") (decimal done.number)
    ++ member (codes "lease") (decimal done.lease) ++ member (codes "result") (quoted (outcome_word done.result)) ++ codes "}"

abbrev pub beat_json : Beat → List ℕ
beat_json beat =
    named (codes "beat") ++ member (codes "runner") (quoted beat.runner) ++ member (codes "lease") (decimal beat.lease) ++ codes "}"

-- a command that has a runner alone
abbrev pub json_of_runner : List ℕ → List ℕ → List ℕ
json_of_runner name runner = named name ++ member (codes "runner") (quoted runner) ++ codes "}"

-- a command that has a run alone
abbrev pub json_of_run : List ℕ → ℕ → List ℕ
json_of_run name run = named name ++ member (codes "run") (decimal run) ++ codes "}"

abbrev pub rerun_json : Attempt → List ℕ
rerun_json again =
    named (codes "rerun") ++ member (codes "run") (decimal again.run) ++ member (codes "attempt") (decimal again.attempt) ++ codes "}"

abbrev pub command_json : Command → List ℕ
command_json (command.Admit event) = admit_json event
command_json (command.Claim claim) = claim_json claim
command_json (command.Done done) = done_json done
command_json (command.Beat beat) = beat_json beat
command_json (command.Cancel run) = json_of_run (codes "cancel") run
command_json (command.Lost runner) = json_of_runner (codes "lost") runner
command_json (command.Look run) = json_of_run (codes "look") run
command_json (command.Fetch run) = json_of_run (codes "fetch") run
command_json (command.Rerun again) = rerun_json again
command_json (command.Forget run) = json_of_run (codes "forget") run
command_json (command.Discharge runner) = json_of_runner (codes "discharge") runner

-- ---- replies, without the view of a run and without a body

-- the view of a run: of a look its id alone
abbrev pub short_view : Command → List ℕ → List ℕ
short_view (command.Look run) view = codes "run " ++ decimal run
short_view _ view = view

abbrev pub short_reply : Command → Reply → List ℕ
short_reply c (reply.Run view) = short_view c view
short_reply c (reply.Body body) = codes "body " ++ decimal (length body)
short_reply c r = reply_text r

-- ---- lines. Each ends with the time of its commit, in milliseconds since 1970.

-- an entry with its place
unfoldable pub entry_line : ℕ → ℕ → Command → Reply → List ℕ
entry_line place at c r =
    line (codes "{\"entry\":" ++ decimal place ++ member (codes "command") (command_json c)
    ++ member (codes "reply") (quoted (short_reply c r)) ++ member (codes "at") (decimal at) ++ codes "}")

-- a run that begins an attempt, with all members of its row, as it is after the entries up to a place
unfoldable pub attempt_line : ℕ → ℕ → TableState → Seen → List ℕ
attempt_line place at t seen =
    line (codes "{\"after\":" ++ decimal place ++ codes "," ++ run_members t seen ++ member (codes "at") (decimal at) ++ codes "}")

-- a run with its id, as it is after the entries up to a place
unfoldable pub run_change_line : ℕ → ℕ → ℕ → RunState → List ℕ
run_change_line place at id run =
    line (codes "{\"after\":" ++ decimal place ++ member (codes "run") (decimal id) ++ member (codes "attempt") (decimal run.attempt)
    ++ state_members run ++ member (codes "at") (decimal at) ++ codes "}")

-- the runs with ids through this one are forgotten, as it is after the entries up to a place
unfoldable pub forgotten_line : ℕ → ℕ → ℕ → List ℕ
forgotten_line place at through =
    line (codes "{\"after\":" ++ decimal place ++ member (codes "type") (quoted (codes "forgotten")) ++ member (codes "through") (decimal through)
    ++ member (codes "at") (decimal at) ++ codes "}")

-- where a leg is
abbrev pub place_members : LegNews → List ℕ
place_members news =
    member (codes "run") (decimal news.run) ++ member (codes "attempt") (decimal news.attempt) ++ member (codes "job") (quoted news.job)
    ++ member (codes "leg") (decimal news.leg)

-- how a leg stands
abbrev pub leg_state_members : LegNews → List ℕ
leg_state_members news =
    member (codes "state") (quoted (leg_text news.state.phase)) ++ member (codes "lease") (number_or_null news.state.lease)
    ++ member (codes "runner") (text_or_null news.runner)

-- a leg, as it is after the entries up to a place
unfoldable pub leg_change_line : ℕ → ℕ → LegNews → List ℕ
leg_change_line place at news =
    line (codes "{\"after\":" ++ decimal place ++ place_members news ++ leg_state_members news ++ member (codes "at") (decimal at) ++ codes "}")

-- The lines of a runner: what each demands, and how lines are found in the bytes of a session. This is defined by this project.
use Rattle.std.specs.Prelude.{◌≡◌, ◌≢◌, ◌⊎◌, ℕ, ◌≤◌, ◌<◌, true, false, List, ◌∷◌, ◌++◌, [], length, take, codes, None, ok_or, Result, Ok, Err, if◌then◌else◌}
use Rattle.std.specs.List.{All}
use Rattle.std.specs.Option.{option_map_or}
use Rattle.std.specs.Str.{bytes_eq}
use Rattle.std.specs.Str.Lines.{strip_carriage_return}
use Rattle.definitions.specs.Limits.{max_line, max_lines}
use Rattle.wf_value.specs.RefusalText.{refusal_text}
use Rattle.wf_value.specs.declared.refusal.Refusal.{Refusal}
use Rattle.run_plan.specs.ReplyText.{reply_text}
use Rattle.run_plan.specs.declared.command.Command.{Command}
use Rattle.command_lines.specs.Commands.{not_a_line, claim_of, done_of, beat_of, fetch_of}
use Rattle.command_lines.specs.Fields.{at_space}
use Rattle.act_sessions.specs.declared.request.Demand.{Demand}
use Rattle.act_sessions.specs.declared.request.Demand.TheVariants as demand
use Rattle.act_sessions.specs.declared.request.Progress.{Progress}
use Rattle.act_sessions.specs.declared.request.Request.{Request}
use Rattle.act_sessions.specs.Rules.{Rules}
use Rattle.act_sessions.specs.Exchange.{Response}

-- `CLAIM RUNNER NUMBER LABELS`, `DONE RUNNER NUMBER LEASE RESULT`, `BEAT RUNNER LEASE` or `FETCH RUN`
abbrev pub command_by : List ℕ → List ℕ → Result Command Refusal
command_by word fields =
    if bytes_eq word (codes "CLAIM") then ok_or (claim_of fields) not_a_line
    else (if bytes_eq word (codes "DONE") then ok_or (done_of fields) not_a_line
    else (if bytes_eq word (codes "BEAT") then ok_or (beat_of fields) not_a_line
    else (if bytes_eq word (codes "FETCH") then ok_or (fetch_of fields) not_a_line else Err not_a_line)))

-- the command of a line; every other line is refused with 75
abbrev pub command_of : List ℕ → Result Command Refusal
command_of line = option_map_or (λ p. command_by p.0 p.1) (at_space line) (Err not_a_line)

abbrev pub demand_by : Result Command Refusal → Demand Refusal
demand_by (Ok command) = demand.Command command
demand_by (Err e) = demand.Fault e

-- What a line demands, without one carriage return at its end. The session continues after every line.
abbrev pub request_in : List ℕ → Request Refusal
request_in line = record { demand = demand_by (command_of (strip_carriage_return line)); closes = false }

-- `max_line` bytes without a line feed are refused with 75 and end the session
abbrev pub too_long : Request Refusal
too_long = record { demand = demand.Fault not_a_line; closes = true }

abbrev pub HasNoFeed : List ℕ → Type 0
HasNoFeed line = All (λ b. b ≢ 10) line

-- less than a line: the bytes contain no line feed, and are fewer than the longest line has
abbrev pub IsUnfinished : List ℕ → Type 0
IsUnfinished bytes = HasNoFeed bytes × (length bytes < max_line)

-- so many of the bytes contain no line feed, and are fewer than the longest line has
abbrev pub LineKnown : List ℕ → Progress → Type 0
LineKnown bytes p = (p.read ≤ length bytes) × (p.read < max_line) × HasNoFeed (take p.read bytes)

-- The bytes begin with a line and its line feed, or with as many bytes as the longest line has and no line feed. A rest follows.
abbrev pub LineReads : List ℕ → Request Refusal → List ℕ → Type 0
LineReads bytes r rest =
    (line : List ℕ) × HasNoFeed line
    × (((length line < max_line) × (bytes ≡ line ++ 10 ∷ rest) × (r ≡ request_in line))
    ⊎ ((length line ≡ max_line) × (bytes ≡ line ++ rest) × (r ≡ too_long)))

-- the text of the reply or the refusal, and a line feed
abbrev pub response_text : Response → List ℕ
response_text (Ok reply) = reply_text reply ++ 10 ∷ []
response_text (Err e) = refusal_text e ++ 10 ∷ []

-- A session takes at most `max_lines` lines, including faulty and empty ones. An unfinished line waits. Running out of memory ends the
-- session with a fault.
abbrev pub runner_rules : Rules Refusal
runner_rules = record {
  reads = LineReads;
  waits = IsUnfinished;
  answer_text = λ last a. response_text a;
  fault_text = λ last e. refusal_text e ++ 10 ∷ [];
  out_of_memory_response = None;
  most = max_lines;
  limit = max_line;
}

-- What a request demands, by its head and its body, or why it is refused. The checks are in order.
use Rattle.std.specs.Prelude.{ℕ, Bool, true, false, ◌||◌, ◌&&◌, ◌==◌, nat_le, List, length, take, drop, codes, Option, Some, None, unwrap_or, Result, Ok, Err, if◌then◌else◌}
use Rattle.std.specs.Str.{bytes_eq}
use Rattle.wf_value.specs.declared.refusal.Refusal.{Refusal}
use Rattle.wf_reader.specs.Faults.{unless_faulty}
use Rattle.definitions.specs.SmallText.{Admitted}
use Rattle.run_plan.specs.PlanOf.{faults_of}
use Rattle.run_plan.specs.declared.command.Command.TheVariants as command
use Rattle.act_sessions.specs.declared.request.Demand.{Demand}
use Rattle.act_sessions.specs.declared.request.Demand.TheVariants as demand
use Rattle.act_sessions.specs.declared.request.Request.{Request}
use Rattle.http1.specs.Fields.{Header}
use Rattle.webhook_sessions.specs.declared.fault.Fault.{Fault}
use Rattle.webhook_sessions.specs.declared.fault.Fault.TheVariants.{NoLength, NoPath, WrongMethod, Unprocessable}
use Rattle.webhook_sessions.specs.declared.path.Path.{Path}
use Rattle.webhook_sessions.specs.declared.path.Path.TheVariants.{Events, Run, Body, Cancel, Attempt, Forget, Lost, Discharge}
use Rattle.webhook_sessions.specs.EventHeaders.{event_headers}
use Rattle.webhook_sessions.specs.Fields.{lists_close}
use Rattle.webhook_sessions.specs.Heading.{Heading}
use Rattle.webhook_sessions.specs.Length.{stated_length}
use Rattle.webhook_sessions.specs.Paths.{path_of, method_of}

-- ---- before the body is read

abbrev pub posts_event : Heading → Bool
posts_event head = bytes_eq head.method (codes "POST") && bytes_eq head.target (codes "/events")

-- without a stated length there is no body; an event has to state a length and carry its headers
abbrev pub length_wanted : Bool → Result (Option ℕ) Fault → Result (List ℕ × List ℕ) Fault → Result ℕ Fault
length_wanted posts (Err fault) headers = Err fault
length_wanted false (Ok stated) headers = Ok (unwrap_or stated 0)
length_wanted true (Ok None) headers = Err NoLength
length_wanted true (Ok (Some n)) (Err fault) = Err fault
length_wanted true (Ok (Some n)) (Ok found) = Ok n

-- the length of the body to read
abbrev pub body_length : Heading → Result ℕ Fault
body_length head = length_wanted (posts_event head) (stated_length head.fields) (event_headers head.fields)

-- ---- once the body is read

abbrev pub admission_or_fault : Admitted → Result Admitted Refusal → Demand Fault
admission_or_fault event (Ok admitted) = demand.Command (command.Admit admitted)
admission_or_fault event (Err refusal) = demand.Fault (Unprocessable refusal)

abbrev pub prepared : Admitted → Demand Fault
prepared event = admission_or_fault event (unless_faulty (faults_of event.body) event)

abbrev pub admission : Result (List ℕ × List ℕ) Fault → List ℕ → Demand Fault
admission (Err fault) body = demand.Fault fault
admission (Ok headers) body = prepared (record { delivery = headers.0; event = headers.1; body = body })

abbrev pub command_at : Path → List Header → List ℕ → Demand Fault
command_at Events fields body = admission (event_headers fields) body
command_at (Run run) fields body = demand.Command (command.Look run)
command_at (Body run) fields body = demand.Command (command.Fetch run)
command_at (Cancel run) fields body = demand.Command (command.Cancel run)
command_at (Attempt a) fields body = demand.Command (command.Rerun a)
command_at (Forget run) fields body = demand.Command (command.Forget run)
command_at (Lost runner) fields body = demand.Command (command.Lost runner)
command_at (Discharge runner) fields body = demand.Command (command.Discharge runner)

abbrev pub demand_at : Option Path → Heading → List ℕ → Demand Fault
demand_at None head body = demand.Fault NoPath
demand_at (Some path) head body =
    if bytes_eq head.method (method_of path) then command_at path head.fields body else demand.Fault (WrongMethod (method_of path))

abbrev pub demand_of : Heading → List ℕ → Demand Fault
demand_of head body = demand_at (path_of head.target) head body

-- the sender wants the session to end: RFC 9112, section 9.3
abbrev pub wants_close : Heading → Bool
wants_close head = (head.minor == 0) || lists_close head.fields

-- ---- a whole request

abbrev pub whole : Heading → List ℕ → Request Fault
whole head body = record { demand = demand_of head body; closes = wants_close head }

-- a request that is refused before its body is read; the next bytes cannot be framed, so the session ends
abbrev pub unread : Fault → Request Fault
unread fault = record { demand = demand.Fault fault; closes = true }

abbrev pub with_body : Heading → List ℕ → Result ℕ Fault → Option (Request Fault × List ℕ)
with_body head after (Err fault) = Some (unread fault, after)
with_body head after (Ok n) = if nat_le n (length after) then Some (whole head (take n after), drop n after) else None

-- the request of a head and the bytes after it, and the bytes after the request; `None` if the body is incomplete
abbrev pub request_after : Heading → List ℕ → Option (Request Fault × List ℕ)
request_after head after = with_body head after (body_length head)

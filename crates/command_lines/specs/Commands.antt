-- Commands from the fields that follow the command word of a line, in the order and the forms of docs/FORMATS.md. Other fields are
-- refused with 75, and a body with faults is refused with its first fault. This is defined by this project.
use Rattle.std.specs.Prelude.{ℕ, List, codes, Option, Some, None, option_map, option_and_then, Result, Ok, Err, if◌then◌else◌}
use Rattle.std.specs.Option.{option_map_or}
use Rattle.std.specs.Str.{bytes_eq}
use Rattle.wf_value.specs.declared.code.Code.TheVariants as code
use Rattle.wf_value.specs.declared.outcome.Outcome.{Outcome}
use Rattle.wf_value.specs.declared.outcome.Outcome.TheVariants as outcome
use Rattle.wf_value.specs.declared.refusal.Refusal.{Refusal}
use Rattle.wf_value.specs.declared.refusal.Refusal.TheVariants.{Numbered}
use Rattle.wf_reader.specs.Faults.{unless_faulty}
use Rattle.definitions.specs.SmallText.{Admitted, delivery_id_of, event_name_of, runner_name_of, label_list_of, number_of}
use Rattle.run_plan.specs.PlanOf.{faults_of}
use Rattle.run_plan.specs.declared.command.Command.{Command}
use Rattle.run_plan.specs.declared.command.Command.TheVariants as command
use Rattle.command_lines.specs.Fields.{at_space, three_fields}

-- maps the value of a result
abbrev pub onward : {X Y : Type 0} → (X → Y) → Result X Refusal → Result Y Refusal
onward f (Ok x) = Ok (f x)
onward f (Err e) = Err e

abbrev pub not_a_line : Refusal
not_a_line = Numbered code.Line

-- `admit DELIVERY EVENT BODY`: the body is everything after the third space, and may be empty
abbrev pub prepared : Admitted → Result Command Refusal
prepared event = onward (λ p. command.Admit p) (unless_faulty (faults_of event.body) event)

abbrev pub event_of : List ℕ × List ℕ × List ℕ → Option Admitted
event_of f =
    option_and_then (λ delivery. option_map (λ event. record { delivery = delivery; event = event; body = f.2 })
    (event_name_of f.1)) (delivery_id_of f.0)

abbrev pub admit_of : List ℕ → Result Command Refusal
admit_of fields = option_map_or prepared (option_and_then event_of (three_fields fields)) (Err not_a_line)

-- `claim RUNNER NUMBER LABELS`
abbrev pub claim_of : List ℕ → Option Command
claim_of fields =
    option_and_then (λ f. option_and_then (λ runner. option_and_then (λ number. option_map (λ labels.
    command.Claim (record { runner = runner; number = number; labels = labels }))
    (label_list_of f.2)) (number_of f.1)) (runner_name_of f.0)) (three_fields fields)

abbrev pub outcome_of : List ℕ → Option Outcome
outcome_of text =
    if bytes_eq text (codes "success") then Some outcome.Success
    else (if bytes_eq text (codes "failure") then Some outcome.Failure
    else (if bytes_eq text (codes "cancelled") then Some outcome.Cancelled else None))

-- `done RUNNER NUMBER LEASE RESULT`
abbrev pub done_of : List ℕ → Option Command
done_of fields =
    option_and_then (λ first. option_and_then (λ f.
    option_and_then (λ runner. option_and_then (λ number. option_and_then (λ lease. option_map (λ result.
    command.Done (record { runner = runner; number = number; lease = lease; result = result }))
    (outcome_of f.2)) (number_of f.1)) (number_of f.0)) (runner_name_of first.0))
    (three_fields first.1)) (at_space fields)

-- `beat RUNNER LEASE`
abbrev pub beat_of : List ℕ → Option Command
beat_of fields =
    option_and_then (λ f. option_and_then (λ runner. option_map (λ lease. command.Beat (record { runner = runner; lease = lease }))
    (number_of f.1)) (runner_name_of f.0)) (at_space fields)

-- `cancel RUN`
abbrev pub cancel_of : List ℕ → Option Command
cancel_of field = option_map (λ run. command.Cancel run) (number_of field)

-- `lost RUNNER`
abbrev pub lost_of : List ℕ → Option Command
lost_of field = option_map (λ runner. command.Lost runner) (runner_name_of field)

-- `look RUN`
abbrev pub look_of : List ℕ → Option Command
look_of field = option_map (λ run. command.Look run) (number_of field)

-- `fetch RUN`
abbrev pub fetch_of : List ℕ → Option Command
fetch_of field = option_map (λ run. command.Fetch run) (number_of field)

-- `rerun RUN ATTEMPT`
abbrev pub rerun_of : List ℕ → Option Command
rerun_of fields =
    option_and_then (λ f. option_and_then (λ run. option_map (λ attempt. command.Rerun (record { run = run; attempt = attempt }))
    (number_of f.1)) (number_of f.0)) (at_space fields)

-- `forget RUN`
abbrev pub forget_of : List ℕ → Option Command
forget_of field = option_map (λ run. command.Forget run) (number_of field)

-- `discharge RUNNER`
abbrev pub discharge_of : List ℕ → Option Command
discharge_of field = option_map (λ runner. command.Discharge runner) (runner_name_of field)

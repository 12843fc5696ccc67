-- The encodings of commands and of batches.
use Rattle.std.specs.Prelude.{ℕ, List, [], ◌∷◌, ◌&&◌, Bool, true, false, nat_le}
use Rattle.definitions.specs.Limits.{last_number, max_labels}
use Rattle.wf_value.specs.declared.outcome.Outcome.{Outcome}
use Rattle.wf_value.specs.declared.outcome.Outcome.TheVariants as ended
use Rattle.definitions.specs.SmallText.{Admitted, is_short, is_delivery_byte, is_event_byte, is_runner_byte, is_label_byte}
use Rattle.run_plan.specs.PlanOf.{faults_of}
use Rattle.run_plan.specs.declared.command.Attempt.{Attempt}
use Rattle.run_plan.specs.declared.command.Beat.{Beat}
use Rattle.run_plan.specs.declared.command.Claim.{Claim}
use Rattle.run_plan.specs.declared.command.Done.{Done}
use Rattle.run_plan.specs.declared.command.Command.{Command}
use Rattle.run_plan.specs.declared.command.Command.TheVariants as requested
use Rattle.definitions.specs.Format.{Format, word, text, only, pair, parts, counted}

-- 1 to 999,999,999
abbrev pub is_numbered : ℕ → Bool
is_numbered n = nat_le 1 n && nat_le n last_number

abbrev pub number : Format ℕ
number = only is_numbered word

-- a text of 1 to 64 bytes, each of a kind
abbrev pub small_text : (ℕ → Bool) → Format (List ℕ)
small_text kind = only (is_short kind) text

-- 1 to `max_labels` labels
abbrev pub labels : Format (List (List ℕ))
labels = counted 1 max_labels (small_text is_label_byte)

abbrev pub are_none : {X : Type 0} → List X → Bool
are_none [] = true
are_none (x ∷ xs) = false

-- a body without faults
unfoldable pub is_faultless : List ℕ → Bool
is_faultless bytes = are_none (faults_of bytes)

abbrev pub body : Format (List ℕ)
body = only is_faultless text

abbrev pub outcome_byte : Outcome → ℕ
outcome_byte ended.Success = 1
outcome_byte ended.Failure = 2
outcome_byte ended.Cancelled = 3

abbrev pub outcome : Format Outcome
outcome = record { Takes = λ (_ : Outcome). Unit {0}; encoding = λ r. outcome_byte r ∷ [] }

-- ---- the bytes after the one for the command's kind

-- the delivery, the event's name and the body
abbrev pub admit : Format Admitted
admit = parts (λ (a : Admitted). (a.delivery, (a.event, a.body)))
    (pair (small_text is_delivery_byte) (pair (small_text is_event_byte) body))

-- the runner, the number and the labels
abbrev pub claim : Format Claim
claim = parts (λ (c : Claim). (c.runner, (c.number, c.labels))) (pair (small_text is_runner_byte) (pair number labels))

-- the runner, the number, the lease and the result
abbrev pub done : Format Done
done = parts (λ (d : Done). (d.runner, (d.number, (d.lease, d.result))))
    (pair (small_text is_runner_byte) (pair number (pair number outcome)))

-- the runner and the lease
abbrev pub beat : Format Beat
beat = parts (λ b. (b.runner, b.lease)) (pair (small_text is_runner_byte) number)

-- the run and the attempt
abbrev pub rerun : Format Attempt
rerun = parts (λ (a : Attempt). (a.run, a.attempt)) (pair number number)

-- ---- commands and batches

abbrev pub IsEncoded : Command → Type 0
IsEncoded (requested.Admit event) = admit.Takes event
IsEncoded (requested.Claim requests) = claim.Takes requests
IsEncoded (requested.Done report) = done.Takes report
IsEncoded (requested.Beat requests) = beat.Takes requests
IsEncoded (requested.Cancel run) = number.Takes run
IsEncoded (requested.Lost runner) = (small_text is_runner_byte).Takes runner
IsEncoded (requested.Look run) = number.Takes run
IsEncoded (requested.Fetch run) = number.Takes run
IsEncoded (requested.Rerun requests) = rerun.Takes requests
IsEncoded (requested.Forget run) = number.Takes run
IsEncoded (requested.Discharge runner) = (small_text is_runner_byte).Takes runner

-- the byte for the command's kind; 10 and 11 are of no command
abbrev pub kind_of : Command → ℕ
kind_of (requested.Admit event) = 1
kind_of (requested.Claim requests) = 2
kind_of (requested.Done report) = 3
kind_of (requested.Beat requests) = 4
kind_of (requested.Cancel run) = 5
kind_of (requested.Lost runner) = 6
kind_of (requested.Look run) = 7
kind_of (requested.Fetch run) = 8
kind_of (requested.Rerun requests) = 9
kind_of (requested.Forget run) = 12
kind_of (requested.Discharge runner) = 13

-- the bytes after it
abbrev pub fields_of : Command → List ℕ
fields_of (requested.Admit event) = admit.encoding event
fields_of (requested.Claim requests) = claim.encoding requests
fields_of (requested.Done report) = done.encoding report
fields_of (requested.Beat requests) = beat.encoding requests
fields_of (requested.Cancel run) = number.encoding run
fields_of (requested.Lost runner) = (small_text is_runner_byte).encoding runner
fields_of (requested.Look run) = number.encoding run
fields_of (requested.Fetch run) = number.encoding run
fields_of (requested.Rerun requests) = rerun.encoding requests
fields_of (requested.Forget run) = number.encoding run
fields_of (requested.Discharge runner) = (small_text is_runner_byte).encoding runner

abbrev pub command_bytes : Command → List ℕ
command_bytes c = kind_of c ∷ fields_of c

abbrev pub command : Format Command
command = record { Takes = IsEncoded; encoding = command_bytes }

-- at least one command, and at most as many as a count can hold
abbrev pub batch : Format (List Command)
batch = counted 1 4294967295 command

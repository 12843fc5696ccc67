-- Reading of commands and batches as a function, field by field.
use Rattle.std.specs.Prelude.{ℕ, ◌==◌, List, [], ◌∷◌, Bool, if◌then◌else◌, Option, Some, None}
use Rattle.definitions.specs.Limits.{max_labels}
use Rattle.wf_value.specs.declared.outcome.Outcome.{Outcome}
use Rattle.wf_value.specs.declared.outcome.Outcome.TheVariants as outcome
use Rattle.definitions.specs.SmallText.{Admitted, is_short, is_delivery_byte, is_event_byte, is_runner_byte, is_label_byte}
use Rattle.run_plan.specs.declared.command.Attempt.{Attempt}
use Rattle.run_plan.specs.declared.command.Beat.{Beat}
use Rattle.run_plan.specs.declared.command.Claim.{Claim}
use Rattle.run_plan.specs.declared.command.Done.{Done}
use Rattle.run_plan.specs.declared.command.Command.{Command}
use Rattle.run_plan.specs.declared.command.Command.TheVariants as requested
use Rattle.command_encodings.specs.Commands.{is_numbered, is_faultless}
use Rattle.command_encodings.specs.inner.Reading.{◌>>=◌, Reader, word_at, text_at, only_at, pair_at, parts_at, counted_at}

unfoldable pub number_at : Reader ℕ
number_at bytes = only_at is_numbered word_at bytes

unfoldable pub small_text_at : (ℕ → Bool) → Reader (List ℕ)
small_text_at kind bytes = only_at (is_short kind) text_at bytes

unfoldable pub labels_at : Reader (List (List ℕ))
labels_at bytes = counted_at 1 max_labels (small_text_at is_label_byte) bytes

unfoldable pub body_at : Reader (List ℕ)
body_at bytes = only_at is_faultless text_at bytes

abbrev pub result_of : ℕ → Option Outcome
result_of byte = if byte == 1 then Some outcome.Success
    else (if byte == 2 then Some outcome.Failure else (if byte == 3 then Some outcome.Cancelled else None))

unfoldable pub result_at : Reader Outcome
result_at [] = None
result_at (byte ∷ rest) = result_of byte >>= (λ r. Some (r, rest))

unfoldable pub admit_at : Reader Admitted
admit_at bytes = parts_at (λ (p : List ℕ × (List ℕ × List ℕ)). record { delivery = p.0; event = p.1.0; body = p.1.1 })
    (pair_at (small_text_at is_delivery_byte) (pair_at (small_text_at is_event_byte) body_at)) bytes

unfoldable pub claim_at : Reader Claim
claim_at bytes = parts_at (λ (p : List ℕ × (ℕ × List (List ℕ))). record { runner = p.0; number = p.1.0; labels = p.1.1 })
    (pair_at (small_text_at is_runner_byte) (pair_at number_at labels_at)) bytes

unfoldable pub done_at : Reader Done
done_at bytes = parts_at (λ (p : List ℕ × (ℕ × (ℕ × Outcome))). record { runner = p.0; number = p.1.0; lease = p.1.1.0; result = p.1.1.1 })
    (pair_at (small_text_at is_runner_byte) (pair_at number_at (pair_at number_at result_at))) bytes

unfoldable pub beat_at : Reader Beat
beat_at bytes = parts_at (λ (p : List ℕ × ℕ). record { runner = p.0; lease = p.1 }) (pair_at (small_text_at is_runner_byte) number_at) bytes

unfoldable pub rerun_at : Reader Attempt
rerun_at bytes = parts_at (λ (p : ℕ × ℕ). record { run = p.0; attempt = p.1 }) (pair_at number_at number_at) bytes

-- the bytes after the one for the command's kind
unfoldable pub command_of : ℕ → Reader Command
command_of kind rest =
    if kind == 1 then parts_at (λ (a : Admitted). requested.Admit a) admit_at rest
    else (if kind == 2 then parts_at (λ (c : Claim). requested.Claim c) claim_at rest
    else (if kind == 3 then parts_at (λ (d : Done). requested.Done d) done_at rest
    else (if kind == 4 then parts_at (λ (b : Beat). requested.Beat b) beat_at rest
    else (if kind == 5 then parts_at (λ (n : ℕ). requested.Cancel n) number_at rest
    else (if kind == 6 then parts_at (λ (r : List ℕ). requested.Lost r) (small_text_at is_runner_byte) rest
    else (if kind == 7 then parts_at (λ (n : ℕ). requested.Look n) number_at rest
    else (if kind == 8 then parts_at (λ (n : ℕ). requested.Fetch n) number_at rest
    else (if kind == 9 then parts_at (λ (a : Attempt). requested.Rerun a) rerun_at rest
    else (if kind == 12 then parts_at (λ (n : ℕ). requested.Forget n) number_at rest
    else (if kind == 13 then parts_at (λ (r : List ℕ). requested.Discharge r) (small_text_at is_runner_byte) rest
    else None))))))))))

unfoldable pub command_at : Reader Command
command_at [] = None
command_at (kind ∷ rest) = command_of kind rest

unfoldable pub batch_at : Reader (List Command)
batch_at bytes = counted_at 1 4294967295 command_at bytes

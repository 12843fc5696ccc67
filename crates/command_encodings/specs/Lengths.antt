-- The number of bytes in an encoding, as a sum over the fields.
use Rattle.std.specs.Prelude.{ℕ, ◌+◌, List, length, sum_by}
use Rattle.run_plan.specs.declared.command.Command.{Command}
use Rattle.run_plan.specs.declared.command.Command.TheVariants as requested
use Rattle.definitions.specs.Format.{Format}

-- the number of bytes in the encoding
abbrev pub length_of : {A : Type 0} → Format A → A → ℕ
length_of format x = length (format.encoding x)

-- four bytes for the length of a text
abbrev pub text_length : List ℕ → ℕ
text_length t = 4 + length t

-- four bytes for the count, then each text
abbrev pub texts_length : List (List ℕ) → ℕ
texts_length texts = 4 + sum_by text_length texts

-- a number has four bytes, and a result one
abbrev pub fields_length : Command → ℕ
fields_length (requested.Admit event) = text_length event.delivery + text_length event.event + text_length event.body
fields_length (requested.Claim requests) = text_length requests.runner + 4 + texts_length requests.labels
fields_length (requested.Done report) = text_length report.runner + 4 + 4 + 1
fields_length (requested.Beat requests) = text_length requests.runner + 4
fields_length (requested.Cancel run) = 4
fields_length (requested.Lost runner) = text_length runner
fields_length (requested.Look run) = 4
fields_length (requested.Fetch run) = 4
fields_length (requested.Rerun requests) = 4 + 4
fields_length (requested.Forget run) = 4
fields_length (requested.Discharge runner) = text_length runner

-- one byte for the command's kind
abbrev pub command_length : Command → ℕ
command_length c = 1 + fields_length c

-- four bytes for the count, then each command
abbrev pub batch_length : List Command → ℕ
batch_length commands = 4 + sum_by command_length commands

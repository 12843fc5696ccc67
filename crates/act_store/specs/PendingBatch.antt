-- The entries that are pending until a commit, and the record that a commit writes of them.
use Rattle.std.specs.Prelude.{ℕ, ◌+◌, List, ◌++◌, length, flat_map}
use Rattle.std.specs.Int.{to_be_bytes, w32}
use Rattle.run_plan.specs.declared.command.Command.{Command}
use Rattle.command_encodings.specs.Commands.{command_bytes}

-- the bytes of the number of a record's commands
abbrev pub count_length : ℕ
count_length = 4

-- the number of pending commands, and their encodings in a row
pub record BatchState : Type 0 where
  pub count : ℕ
  pub encoded : List ℕ

abbrev pub batch_state_of : List Command → BatchState
batch_state_of commands = record { count = length commands; encoded = flat_map command_bytes commands }

-- with one more command
abbrev pub with_command : BatchState → Command → BatchState
with_command waits command = record { count = waits.count + 1; encoded = waits.encoded ++ command_bytes command }

-- the body of the record: the count and the encodings
abbrev pub body_of : BatchState → List ℕ
body_of waits = to_be_bytes w32 waits.count ++ waits.encoded

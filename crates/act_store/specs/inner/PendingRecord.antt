-- How the pending commands stand in the record that a commit writes of them.
use Rattle.std.specs.Prelude.{◌≡◌, ℕ, ◌+◌, ◌-◌, ◌<◌, List, [], ◌++◌, length, take, drop, Option, Some, None}
use Rattle.std.specs.Int.{to_be_bytes, w32}
use Rattle.gated_journal.specs.Lengths.{body_number_length, frame_length}
use Rattle.run_plan.specs.declared.command.Command.{Command}
use Rattle.command_encodings.specs.Commands.{command_bytes}
use Rattle.act_store.specs.PendingBatch.{count_length}

-- the bytes after the count in the body of a record, if there is one
abbrev pub encoded_in : Option (List ℕ) → List ℕ
encoded_in None = []
encoded_in (Some body) = drop count_length body

-- The record has this count in its body. If no command is pending there may be no record.
abbrev pub IsRecordOf : ℕ → Option (List ℕ) → Type 0
IsRecordOf count None = count ≡ 0
IsRecordOf count (Some body) = body ≡ to_be_bytes w32 count ++ drop count_length body

-- the body of a record, or of one without commands if there is none
abbrev pub body_held : Option (List ℕ) → List ℕ
body_held None = to_be_bytes w32 0
body_held (Some body) = body

-- The body begins with a count that can grow by one.
abbrev pub CountsFew : List ℕ → Type 0
CountsFew body = (count : ℕ) × (count < 4294967295) × (body ≡ to_be_bytes w32 count ++ drop count_length body)

-- the body with one more command
abbrev pub IsWithCommand : List ℕ → Command → List ℕ → Type 0
IsWithCommand body command longer = (count : ℕ) → count < 4294967295 → body ≡ to_be_bytes w32 count ++ drop count_length body
    → longer ≡ to_be_bytes w32 (count + 1) ++ (drop count_length body ++ command_bytes command)

-- The bytes of a record between its length with the count and its gate.
abbrev pub encoded_between : List ℕ → List ℕ
encoded_between bytes = take (length bytes - (frame_length + count_length)) (drop (body_number_length + count_length) bytes)

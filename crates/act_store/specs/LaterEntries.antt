-- The entries since a checkpoint was begun, as it keeps them: the encodings of their commands.
use Rattle.std.specs.Prelude.{ℕ, ◌-◌, List, ◌++◌, length, take}
use Rattle.act_store.specs.declared.begun.Begun.{Begun}

-- with the encoding of one more command
abbrev pub with_encoded : List ℕ → Begun → Begun
with_encoded encoded b = record b { last = record b.last { encoded = b.last.encoded ++ encoded } }

-- without so many of the last bytes
abbrev pub without_last : ℕ → Begun → Begun
without_last count b = record b { last = record b.last { encoded = take (length b.last.encoded - count) b.last.encoded } }

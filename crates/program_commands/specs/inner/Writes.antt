-- How many of some lines a call has written: all of them, or a prefix if it failed.
use Rattle.std.specs.Prelude.{◌≡◌, ◌⊎◌, List, ℕ, ◌++◌, Option, Result, Ok, Err}
use Rattle.std.specs.Io.KnownBytes.{Appends}
use Rattle.wf_value.specs.Gives.{no_memory}
use Rattle.wf_value.specs.declared.refusal.Refusal.{Refusal}
use Rattle.act_disk.specs.Failed.{stream_failed}

-- a prefix of some lines was appended to the output
abbrev pub PrefixWritten : Option (List ℕ) → Option (List ℕ) → List ℕ → Type 0
PrefixWritten old new lines = (out : List ℕ) × (rest : List ℕ) × Appends old new out × (out ++ rest ≡ lines)

-- all lines are written, or a prefix of them if the stream failed or memory ran out
abbrev pub Writes : {U : Type 0} → Option (List ℕ) → Option (List ℕ) → List ℕ → Result U Refusal → Type 0
Writes old new lines (Ok u) = Appends old new lines
Writes old new lines (Err e) = ((e ≡ stream_failed) ⊎ (e ≡ no_memory)) × PrefixWritten old new lines

-- The result of reading a whole input, and why it may be refused.
use Rattle.std.specs.Prelude.{◌≡◌, ◌⊎◌, ℕ, ◌≤◌, ◌<◌, List, length, Option}
use Rattle.std.specs.Io.KnownBytes.{Consumes}
use Rattle.definitions.specs.Limits.{max_input}
use Rattle.wf_value.specs.Gives.{no_memory}
use Rattle.wf_value.specs.declared.code.Code.TheVariants.{InputTooLong}
use Rattle.wf_value.specs.declared.refusal.Refusal.{Refusal}
use Rattle.wf_value.specs.declared.refusal.Refusal.TheVariants.{Numbered}
use Rattle.act_disk.specs.Failed.{stream_failed}

-- all of it, if it is not too long
abbrev pub IsReadAs : List ℕ → List ℕ → Type 0
IsReadAs bytes input = (bytes ≡ input) × (length input ≤ max_input)

-- it is too long, or the stream failed, or memory ran out
abbrev pub RefusesInput : Refusal → List ℕ → Type 0
RefusesInput e input = ((e ≡ Numbered InputTooLong) × (max_input < length input)) ⊎ ((e ≡ stream_failed) ⊎ (e ≡ no_memory))

-- at most `most` bytes of a reader are read
abbrev pub ReadsAtMost : ℕ → Option (List ℕ) → Option (List ℕ) → Type 0
ReadsAtMost most old new = (read : List ℕ) × Consumes old new read × (length read ≤ most)

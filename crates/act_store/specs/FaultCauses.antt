-- How a device fault is reported.
use Rattle.std.specs.Prelude.{◌≡◌, ◌⊎◌, ℕ, ◌+◌, Result, Ok, Err}
use Rattle.wf_value.specs.declared.refusal.Refusal.{Refusal}
use Rattle.act_disk.specs.Failed.{device_failed}

-- The refusal is 51 exactly if a disk call failed, with one fault.
abbrev pub IsCause : Refusal → ℕ → ℕ → Type 0
IsCause e old new = ((e ≡ device_failed) × (new ≡ old + 1)) ⊎ ((e ≡ device_failed → ⊥) × (new ≡ old))

abbrev pub TellsFault : {T : Type 0} → Result T Refusal → ℕ → ℕ → Type 0
TellsFault (Ok x) old new = new ≡ old
TellsFault (Err e) old new = IsCause e old new

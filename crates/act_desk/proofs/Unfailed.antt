-- A store that did not refuse a command has no reason to refuse it, and has not failed.
use Rattle.std.proofs.Common.{◌≡◌, ◌∙◌, inl, ℕ, ◌+◌, Bool, true, false, Ok, Err, None, refl}
use Rattle.std.specs.Prelude.{IfSome, IsErrAnd, Option, Result, Some, if◌then◌else◌}
use Rattle.wf_value.specs.declared.refusal.Refusal.{Refusal}
use Rattle.act_disk.specs.Failed.{device_failed}
use Rattle.act_store.specs.Plain.{failed_earlier}
use Rattle.act_store.specs.FaultCauses.{TellsFault}

-- a statement about a cause holds if there is no cause
pub never_refused : {T : Type 0} (cause : Option Refusal) (P : Refusal → Type 0) (r : Result T Refusal) (x : T) → r ≡ Ok x
    → IfSome cause (λ e. r ≡ Err e) → IfSome cause P
never_refused None P r x is refused = _
never_refused (Some e) P r x is refused = absurd (cc (is, refused))

pub live_by : {T : Type 0} (failed : Bool) (other : Option Refusal) (r : Result T Refusal) (x : T) → r ≡ Ok x
    → IfSome (if failed then Some failed_earlier else other) (λ e. r ≡ Err e) → failed ≡ false
live_by true other r x is refused = absurd (cc (is, refused))
live_by false other r x is refused = refl

-- a fault that is passed on is reported
pub fault_told : {T : Type 0} (r : Result T Refusal) (e : Refusal) (old new : ℕ) → IsErrAnd r (λ f. f ≡ e) → e ≡ device_failed
    → new ≡ old + 1 → TellsFault r old new
fault_told (Ok x) e old new is device more = absurd is
fault_told (Err f) e old new is device more = inl (is ∙ device, more)

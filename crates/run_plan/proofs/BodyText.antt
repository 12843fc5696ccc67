-- A body without faults is UTF-8.
use Rattle.std.specs.Prelude.{◌≡◌, ℕ, List, [], ◌++◌, length, nat_le, Bool, true, false, Option, None, if◌then◌else◌, refl}
use Rattle.std.specs.Str.{is_utf8, IsUtf8}
use Rattle.std.proofs.lemmas.Str.{IsUtf8-from_is_utf8}
use Rattle.definitions.specs.Limits.{max_body}
use Rattle.serde_json.specs.Data.{Data}
use Rattle.serde_json.specs.Read.{read}
use Rattle.wf_value.specs.declared.code.Code.TheVariants.{NotJson, TooLong}
use Rattle.wf_value.specs.declared.refusal.Refusal.{Refusal}
use Rattle.wf_reader.specs.Event.{event_faults_in, event_of}
use Rattle.wf_reader.specs.Faults.{fault, required}
use Rattle.run_plan.specs.PlanOf.{faults_of, plan_faults}

refused : (short text : Bool) (value : Option Data) (rest : List Refusal) → text ≡ false
    → (if short then required NotJson event_faults_in (if text then value else None) else fault TooLong) ++ rest ≡ [] → ⊥
refused true false value rest is none = cc
refused false text value rest is none = cc
refused true true value rest is none = cc

text_or_fault : (body : List ℕ) (text : Bool) → is_utf8 body ≡ text → faults_of body ≡ [] → IsUtf8 body
text_or_fault body true is none = IsUtf8-from_is_utf8 body is
text_or_fault body false is none =
    absurd (refused (nat_le (length body) max_body) (is_utf8 body) (read body) (plan_faults (event_of body).workflow) is none)

pub body_is_text : (body : List ℕ) → faults_of body ≡ [] → IsUtf8 body
body_is_text body none = text_or_fault body (is_utf8 body) refl none

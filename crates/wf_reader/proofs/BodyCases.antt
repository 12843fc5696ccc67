-- The faults of the text of a body.
use Rattle.std.proofs.Common.{◌≡◌, ℕ, ◌≤◌, List, [], length, Bool, true, false, nat_le, Option, Some, None, unwrap_or}
use Rattle.std.proofs.Common.{if◌then◌else◌, Ok, Err, IsUtf8, refl, ap, arith}
use Rattle.std.specs.Str.{is_utf8}
use Rattle.std.proofs.lemmas.Str.{IsUtf8-from_is_utf8, is_utf8-from_IsUtf8}
use Rattle.std.proofs.lemmas.Bool.Decides.{nat_tests}
use Rattle.definitions.specs.Limits.{max_body}
use Rattle.serde_json.specs.Data.{Data, null}
use Rattle.serde_json.specs.Read.{read}
use Rattle.wf_value.specs.declared.code.Code.TheVariants.{NotJson, TooLong}
use Rattle.wf_value.specs.declared.refusal.Refusal.{Refusal}
use Rattle.wf_value.specs.declared.refusal.Refusal.TheVariants.{Numbered}
use Rattle.wf_reader.specs.Workflow.{json_of, body_faults, body_value}
use Rattle.wf_reader.specs.Faults.{unless_faulty, fault, required}

not_utf8 : (bytes : List ℕ) (b : Bool) → is_utf8 bytes ≡ b → ¬ IsUtf8 bytes → is_utf8 bytes ≡ false
not_utf8 bytes true is h = absurd (h (IsUtf8-from_is_utf8 bytes is))
not_utf8 bytes false is h = is

pub never_both : (bytes : List ℕ) → IsUtf8 bytes → is_utf8 bytes ≡ false → ⊥
never_both bytes is not_so = let so : is_utf8 bytes ≡ true = is_utf8-from_IsUtf8 bytes is in cc

short : (n : ℕ) → n ≤ max_body → nat_le n max_body ≡ true
short n h = grind (arith, nat_tests)

pub no_text : (bytes : List ℕ) → length bytes ≤ max_body → ¬ IsUtf8 bytes
    → unless_faulty (body_faults (λ _. []) bytes) (body_value bytes) ≡ Err (Numbered NotJson)
no_text bytes size h = rw (short (length bytes) size, not_utf8 bytes _ refl h)

pub text_read : (bytes : List ℕ) (d : Data) → length bytes ≤ max_body → IsUtf8 bytes → read bytes ≡ Some d
    → unless_faulty (body_faults (λ _. []) bytes) (body_value bytes) ≡ Ok d
text_read bytes d size h is = rw (short (length bytes) size, is_utf8-from_IsUtf8 bytes h, is)

inside : {X : Type 0} (check : Data → List Refusal) (of : Data → X) (b : Bool) (o : Option Data) (v : Data)
    → unless_faulty (if b then required NotJson (λ _. []) o else fault TooLong) (unwrap_or o null) ≡ Ok v
    → unless_faulty (check v) (of v) ≡ unless_faulty (if b then required NotJson check o else fault TooLong) (of (unwrap_or o null))
inside check of true None v h = absurd cc
inside check of true (Some d) v h = let same : v ≡ d = cc in ap (λ w. unless_faulty (check w) (of w)) same
inside check of false o v h = absurd cc

-- if the body has a value, its faults are those inside the value
pub inside_body : {X : Type 0} (check : Data → List Refusal) (of : Data → X) (bytes : List ℕ) (v : Data)
    → unless_faulty (body_faults (λ _. []) bytes) (body_value bytes) ≡ Ok v → unless_faulty (check v) (of v) ≡ unless_faulty
    (body_faults check bytes) (of (body_value bytes))
inside_body check of bytes v h = inside check of (nat_le (length bytes) max_body) (json_of bytes) v h

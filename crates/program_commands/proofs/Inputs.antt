-- The results of a call that reads an input.
use Rattle.std.proofs.Common.{◌≡◌, ◌⊎◌, inl, inr, ℕ, ◌<◌, List, [], length, Option, Some, None, Result, Ok, Err, IfErr, IfSome}
use Rattle.std.proofs.Common.{refl, sym, ap, subst, arith, length-append}
use Rattle.std.specs.Io.KnownBytes.{Appends, Consumes}
use Rattle.std.specs.Prelude.{IsErrAnd}
use Rattle.std.proofs.KnownBytes.{Appends-nil}
use Rattle.definitions.specs.Limits.{max_input}
use Rattle.wf_value.specs.Gives.{no_memory}
use Rattle.wf_value.specs.declared.code.Code.TheVariants.{InputTooLong}
use Rattle.wf_value.specs.declared.refusal.Refusal.{Refusal}
use Rattle.wf_value.specs.declared.refusal.Refusal.TheVariants.{Numbered}
use Rattle.act_disk.specs.Failed.{stream_failed}
use Rattle.program_commands.specs.Input.{RefusesInput}

pub for_any : {X : Type 0} {P : X → Type 0} (o : Option X) → ((x : X) → P x) → IfSome o P
for_any None f = tt
for_any (Some x) f = f x

pub from_each : {X : Type 0} {P Q : X → Type 0} (o : Option X) → IfSome o P → ((x : X) → P x → Q x) → IfSome o Q
from_each None h f = tt
from_each (Some x) h f = f x h

-- if an input was not read, nothing is written
pub nothing_written : (P : List ℕ → List ℕ → Type 0) (input writer : Option (List ℕ)) (e : Refusal) → IfSome input (RefusesInput e)
    → ((text : List ℕ) → RefusesInput e text → P text [])
    → IfSome input (λ text. (out : List ℕ) × Appends writer writer out × P text out)
nothing_written P input writer e refused unread = from_each input refused (λ text why. ([], Appends-nil writer, unread text why))

-- it was not read to its end
pub unread : {U : Type 0} (r : Result U Refusal) (e : Refusal) (input : Option (List ℕ)) → IsErrAnd r (λ f. f ≡ e)
    → (e ≡ stream_failed) ⊎ (e ≡ no_memory) → IfErr r (λ f. IfSome input (RefusesInput f))
unread (Ok u) e input is why = tt
unread (Err f) e input is why =
    for_any input (λ x. inr (subst (λ g. (g ≡ stream_failed) ⊎ (g ≡ no_memory)) (sym is) why))

-- more of it was read than is allowed
pub too_long : (before after : Option (List ℕ)) (read : List ℕ) → Consumes before after read → max_input < length read
    → IfSome before (RefusesInput (Numbered InputTooLong))
too_long None after read consumed long = tt
too_long (Some x) None read consumed long = absurd consumed
too_long (Some x) (Some y) read consumed long = inl (refl, omega (arith, ap length consumed, length-append read y, long))

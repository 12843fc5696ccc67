-- What a lint of a text has written.
use Rattle.std.proofs.Common.{◌≡◌, ◌⊎◌, inl, inr, ℕ, ◌≤◌, List, [], length, Bool, Option, Result, Ok, Err, refl, subst, ◌∙◌, sym}
use Rattle.std.specs.Io.KnownBytes.{Appends}
use Rattle.std.specs.Prelude.{IsErrAnd}
use Rattle.definitions.specs.Limits.{max_input}
use Rattle.wf_value.specs.Gives.{no_memory}
use Rattle.wf_value.specs.declared.refusal.Refusal.{Refusal}
use Rattle.act_disk.specs.Failed.{stream_failed}
use Rattle.workflow_lint.specs.Plans.{found_in}
use Rattle.workflow_lint.specs.declared.finding.Finding.{Finding}
use Rattle.program_commands.specs.Input.{RefusesInput}
use Rattle.program_commands.specs.Lint.{Lints, LintsTo, linted}
use Rattle.program_commands.specs.inner.Writes.{PrefixWritten}

-- the findings, as they are written
pub slice_is : (text : List ℕ) (found slice : List Finding) → ◌≡◌ {A = Result (List Finding) Refusal} (Ok (found_in text)) (Ok found)
    → slice ≡ found → slice ≡ found_in text
slice_is text found slice told is = let same : found_in text ≡ found = cc in is ∙ sym same

-- not all of its lines are written, or the writer is not flushed
pub prefix_linted : (text lines : List ℕ) (old new : Option (List ℕ)) (r : Result Bool Refusal) (e : Refusal) → IsErrAnd r (λ f. f ≡ e)
    → lines ≡ linted text → (e ≡ stream_failed) ⊎ (e ≡ no_memory) → PrefixWritten old new lines
    → (out : List ℕ) × Appends old new out × Lints text out r
prefix_linted text lines old new (Ok b) e is same why prefix = absurd is
prefix_linted text lines old new (Err f) e is same why prefix =
    (prefix.0, prefix.2, (subst (λ x. (x ≡ stream_failed) ⊎ (x ≡ no_memory)) (sym is) why, (prefix.1, prefix.3 ∙ same)))

-- a text that is not too long
pub lints_within : (text out : List ℕ) (r : Result Bool Refusal) → length text ≤ max_input → Lints text out r → LintsTo text out r
lints_within text out (Ok b) fits h = (fits, h)
lints_within text out (Err e) fits h = inr h

-- a text that was not read
pub unread : (text : List ℕ) (r : Result Bool Refusal) (e : Refusal) → IsErrAnd r (λ f. f ≡ e) → RefusesInput e text → LintsTo text [] r
unread text (Ok b) e is why = absurd is
unread text (Err f) e is (inl long) = inl (is ∙ long.0, long.1, refl)
unread text (Err f) e is (inr why) =
    inr (subst (λ x. (x ≡ stream_failed) ⊎ (x ≡ no_memory)) (sym is) why, (linted text, refl))

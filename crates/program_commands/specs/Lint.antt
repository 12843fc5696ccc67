-- The output of `acts lint`: a line for each fault of a workflow. The format is defined by this project.
use Rattle.std.specs.Prelude.{◌≡◌, ◌⊎◌, ℕ, ◌≤◌, ◌<◌, List, [], ◌∷◌, ◌++◌, length, Bool, true, false, Result, Ok, Err}
use Rattle.definitions.specs.Limits.{max_input}
use Rattle.wf_value.specs.Gives.{no_memory}
use Rattle.wf_value.specs.declared.code.Code.TheVariants.{InputTooLong}
use Rattle.wf_value.specs.declared.refusal.Refusal.{Refusal}
use Rattle.wf_value.specs.declared.refusal.Refusal.TheVariants.{Numbered}
use Rattle.act_disk.specs.Failed.{stream_failed}
use Rattle.workflow_lint.specs.Lines.{finding_lines}
use Rattle.workflow_lint.specs.Plans.{found_in}
use Rattle.workflow_lint.specs.declared.finding.Finding.{Finding}

abbrev pub linted : List ℕ → List ℕ
linted text = finding_lines (found_in text)

-- whether there is one
abbrev pub is_any : List Finding → Bool
is_any [] = false
is_any (f ∷ fs) = true

abbrev pub IsPrefix : List ℕ → List ℕ → Type 0
IsPrefix text out = (rest : List ℕ) × (out ++ rest ≡ linted text)

-- what is written for a text: all lines, or a prefix of them after a failed stream or out of memory
abbrev pub Lints : List ℕ → List ℕ → Result Bool Refusal → Type 0
Lints text out (Ok faulty) = (out ≡ linted text) × (faulty ≡ is_any (found_in text))
Lints text out (Err e) = ((e ≡ stream_failed) ⊎ (e ≡ no_memory)) × IsPrefix text out

-- How a call on a text ends, and what it has written by then. If a text is too long, nothing is written.
abbrev pub LintsTo : List ℕ → List ℕ → Result Bool Refusal → Type 0
LintsTo text out (Ok faulty) = (length text ≤ max_input) × Lints text out (Ok faulty)
LintsTo text out (Err e) = ((e ≡ Numbered InputTooLong) × (max_input < length text) × (out ≡ [])) ⊎ Lints text out (Err e)

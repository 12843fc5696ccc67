-- The findings of a lint: each fault with the path of the faulty member. This is defined by this project.
use Rattle.std.specs.Prelude.{ℕ, List, map}
use Rattle.wf_value.specs.declared.refusal.Refusal.{Refusal}
use Rattle.workflow_lint.specs.declared.finding.Finding.{Finding}

-- findings for faults of the member at a path
abbrev pub at : List ℕ → List Refusal → List Finding
at path faults = map (λ f. record { path = path; refusal = f }) faults

-- without the paths
abbrev pub refusals : List Finding → List Refusal
refusals found = map (λ f. f.refusal) found

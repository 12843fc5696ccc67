-- The lines of a lint: `NUMBER PATH: MEANING`, where `.` is the path of the whole workflow. This is defined by this project.
use Rattle.std.specs.Prelude.{ℕ, List, [], ◌∷◌, ◌++◌, codes, decimal, flat_map}
use Rattle.wf_value.specs.RefusalText.{refusal_detail, refusal_number}
use Rattle.wf_value.specs.declared.code.Code.{Code}
use Rattle.wf_value.specs.declared.code.Code.TheVariants as code
use Rattle.wf_value.specs.declared.refusal.Refusal.{Refusal}
use Rattle.wf_value.specs.declared.refusal.Refusal.TheVariants.{Numbered, Cycle, Turn}
use Rattle.workflow_lint.specs.declared.finding.Finding.{Finding}

abbrev pub meaning_of_code : Code → List ℕ
meaning_of_code code.NotJson = codes "not JSON, or not UTF-8"
meaning_of_code code.WrongKind = codes "of the wrong kind, or missing"
meaning_of_code code.JobId = codes "not a job id"
meaning_of_code code.UnknownNeed = codes "no job of the workflow"
meaning_of_code code.NoLabels = codes "no label in runs-on"
meaning_of_code code.LeftOut = codes "not supported"
meaning_of_code code.Expression = codes "an expression that is not supported"
meaning_of_code code.PlaceOfContext = codes "a context that may not be used here"
meaning_of_code code.MatrixValue = codes "not a value of a matrix"
meaning_of_code code.EmptyList = codes "empty"
meaning_of_code code.MatrixTooLarge = codes "more than 4096 choices"
meaning_of_code code.LegCount = codes "no leg, or more than 256"
meaning_of_code code.TooManyJobs = codes "more than 256 jobs"
meaning_of_code code.TooLong = codes "longer than 65536 bytes"
meaning_of_code code.StrategyMember = codes "of the wrong kind, out of range, or with another member"
meaning_of_code code.Condition = codes "a condition that is not supported"
meaning_of_code _ = codes "refused"

abbrev pub meaning : Refusal → List ℕ
meaning (Numbered c) = meaning_of_code c
meaning (Cycle ids) = codes "jobs that need one another in a cycle:"
meaning (Turn last) = codes "refused"

abbrev pub shown_path : List ℕ → List ℕ
shown_path [] = codes "."
shown_path (b ∷ bs) = b ∷ bs

abbrev pub finding_line : Finding → List ℕ
finding_line f =
    decimal (refusal_number f.refusal) ++ codes " " ++ shown_path f.path ++ codes ": " ++ meaning f.refusal ++ refusal_detail f.refusal
    ++ 10 ∷ []

abbrev pub finding_lines : List Finding → List ℕ
finding_lines found = flat_map finding_line found

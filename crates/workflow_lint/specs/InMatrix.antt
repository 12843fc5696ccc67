-- The findings in a strategy and its matrix. GitHub Docs, "Workflow syntax for GitHub Actions": jobs.<job_id>.strategy.
use Rattle.std.specs.Prelude.{ℕ, List, [], ◌∷◌, ◌++◌, is_some, if◌then◌else◌, codes}
use Rattle.serde_json.specs.Data.{Data}
use Rattle.serde_json.specs.Find.{as_array, as_object}
use Rattle.wf_value.specs.declared.code.Code.TheVariants.{EmptyList, MatrixValue, StrategyMember}
use Rattle.wf_reader.specs.Faults.{fault}
use Rattle.wf_reader.specs.Json.{members_of}
use Rattle.wf_reader.specs.Strategy.{variables_in, items_of, names_faults}
use Rattle.workflow_lint.specs.Checks.{found_by, items_at, members_at, optional_at}
use Rattle.workflow_lint.specs.Findings.{at}
use Rattle.workflow_lint.specs.declared.check.Check.TheVariants as check
use Rattle.workflow_lint.specs.declared.finding.Finding.{Finding}

-- the findings in a list or an object that must not be empty
abbrev pub unless_empty : {X : Type 0} → List ℕ → List X → List Finding → List Finding
unless_empty path [] found = at path (fault EmptyList)
unless_empty path (x ∷ xs) found = found

-- ---- include and exclude

abbrev pub pattern_at : List ℕ → Data → List Finding
pattern_at path d =
    if is_some (as_object d)
    then unless_empty path (members_of d) (members_at (found_by check.MatrixValue) path (members_of d))
    else at path (fault MatrixValue)

abbrev pub patterns_at : List ℕ → Data → List Finding
patterns_at path d = if is_some (as_array d) then items_at pattern_at path (items_of d) else at path (fault MatrixValue)

-- ---- variables

abbrev pub variable_at : List ℕ → Data → List Finding
variable_at path d =
    if is_some (as_array d)
    then unless_empty path (items_of d) (items_at (found_by check.MatrixValue) path (items_of d))
    else at path (fault MatrixValue)

-- ---- the matrix, and the strategy

abbrev pub inside_matrix_at : List ℕ → Data → List Finding
inside_matrix_at path d =
    optional_at patterns_at path (codes "include") d ++ optional_at patterns_at path (codes "exclude") d
    ++ members_at variable_at path (variables_in d)

abbrev pub matrix_at : List ℕ → Data → List Finding
matrix_at path d = if is_some (as_object d) then inside_matrix_at path d else at path (fault StrategyMember)

abbrev pub inside_strategy_at : List ℕ → Data → List Finding
inside_strategy_at path d =
    at path (names_faults d) ++ optional_at (found_by check.FailFast) path (codes "fail-fast") d
    ++ optional_at (found_by check.MaxParallel) path (codes "max-parallel") d
    ++ optional_at matrix_at path (codes "matrix") d

abbrev pub strategy_at : List ℕ → Data → List Finding
strategy_at path d = if is_some (as_object d) then inside_strategy_at path d else at path (fault StrategyMember)

use Rattle.std.proofs.Common.{◌≡◌, ◌++◌, map, string_bytes}
use Rattle.std.specs.List.{filter}
use Rattle.serde_json.specs.View.{view}
use Rattle.wf_reader.specs.Strategy.{is_variable_name}
use Rattle.workflow_lint.specs.Checks.{members_at}
use Rattle.workflow_lint.specs.InMatrix.{variable_at}
use Rattle.workflow_lint.proofs.matrix.check_variables.Given as goal

-- the findings so far, followed by those of the remaining variables, are all findings
abbrev pub invariant-loop-name : goal.invariant-loop-name
invariant-loop-name l =
    l.found.items ++ members_at variable_at l.path
    (map (λ e. (string_bytes e.0, view e.1)) (filter (λ e. is_variable_name (string_bytes e.0)) l.name-iterator))
    ≡ l.initial.found.items ++ members_at variable_at l.path
    (map (λ e. (string_bytes e.0, view e.1)) (filter (λ e. is_variable_name (string_bytes e.0)) l.members.entries))

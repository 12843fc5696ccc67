use Rattle.std.proofs.Common.{◌≡◌, ◌++◌, map, string_bytes}
use Rattle.serde_json.specs.View.{view}
use Rattle.workflow_lint.specs.Checks.{members_at}
use Rattle.workflow_lint.proofs.rule.check_members.Given as goal

-- the findings so far, followed by those of the remaining members, are all findings
abbrev pub invariant-loop-name : goal.invariant-loop-name
invariant-loop-name g l =
    l.found.items ++ members_at (g.R.Rule.findings l.rule) l.path (map (λ e. (string_bytes e.0, view e.1)) l.name-iterator)
    ≡ l.initial.found.items ++ members_at (g.R.Rule.findings l.rule) l.path (map (λ e. (string_bytes e.0, view e.1)) l.members.entries)

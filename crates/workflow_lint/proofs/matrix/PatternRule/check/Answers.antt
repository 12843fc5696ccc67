use Rattle.std.proofs.Common.{◌≡◌, ◌<◌, ◌++◌, List, length, subst, arith}
use Rattle.std.specs.Result.{OnOk}
use Rattle.std.proofs.lemmas.Grind.{common_steps}
use Rattle.serde_json.specs.View.{view}
use Rattle.workflow_lint.specs.declared.finding.Finding.{Finding}
use Rattle.workflow_lint.proofs.Here.{pattern_here}
use Rattle.workflow_lint.proofs.matrix.PatternRule.check.Goals as goal

pub returns : goal.returns
returns c =
    let filled : 0 < length c.in-Some.members.now.entries = grind (arith, common_steps) in
    subst (λ (l : List Finding). OnOk c.check_members.result (c.check_members.new.found.items ≡ c.args.found.now.items ++ l))
    (pattern_here c.args.path.now (view c.args.value.now) _ c.in-Some.ensures filled)
    c.check_members.ensures

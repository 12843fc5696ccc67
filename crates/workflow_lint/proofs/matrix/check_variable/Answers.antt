use Rattle.std.proofs.Common.{◌≡◌, ◌<◌, ◌++◌, List, length, subst, arith}
use Rattle.std.specs.Result.{OnOk}
use Rattle.std.proofs.lemmas.Bool.Decides.{nat_tests}
use Rattle.serde_json.specs.View.{view}
use Rattle.workflow_lint.specs.declared.finding.Finding.{Finding}
use Rattle.workflow_lint.proofs.Here.{variable_here}
use Rattle.workflow_lint.proofs.matrix.check_variable.Goals as goal

pub returns : goal.returns
returns c =
    let filled : 0 < length c.as_slice.result.now = grind (arith, nat_tests) in
    subst (λ (l : List Finding). OnOk c.check_items.result (c.check_items.new.found.items ≡ c.args.found.now.items ++ l))
    (variable_here c.args.path.now (view c.args.value.now) _ _ c.in-Some.ensures c.as_slice.ensures.value filled)
    c.check_items.ensures

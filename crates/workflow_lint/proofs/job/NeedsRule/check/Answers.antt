use Rattle.std.proofs.Common.{◌≡◌, ◌++◌, List, subst}
use Rattle.std.specs.Result.{OnOk}
use Rattle.serde_json.specs.View.{view}
use Rattle.workflow_lint.specs.declared.finding.Finding.{Finding}
use Rattle.workflow_lint.proofs.Here.{needs_here}
use Rattle.workflow_lint.proofs.job.NeedsRule.check.Goals as goal

pub returns-in-Some : goal.returns-in-Some
returns-in-Some c =
    subst (λ (l : List Finding). OnOk c.check_items.result (c.check_items.new.found.items ≡ c.args.found.now.items ++ l))
    (needs_here c.args.path.now (view c.args.value.now) _ _ c.in-Some.ensures c.as_slice.ensures.value)
    c.check_items.ensures

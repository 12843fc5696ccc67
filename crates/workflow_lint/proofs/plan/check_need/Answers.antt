use Rattle.std.proofs.Common.{◌++◌, ◌∙◌, List, ap, append-nil, sym}
use Rattle.workflow_lint.specs.declared.finding.Finding.{Finding}
use Rattle.workflow_lint.proofs.Here.{need_named}
use Rattle.workflow_lint.proofs.plan.check_need.Goals as goal

pub returns-then-is_job : goal.returns-then-is_job
returns-then-is_job c =
    sym (ap (λ (l : List Finding). c.args.found.now.items ++ l)
    (need_named c.args.jobs.now c.args.id.now c.args.i c.args.need.now c.if-is_job.ensures)
    ∙ append-nil c.args.found.now.items)

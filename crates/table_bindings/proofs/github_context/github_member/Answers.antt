use Rattle.std.proofs.Common.{sym}
use Rattle.table_model.specs.LegContext.{github_of_run}
use Rattle.table_bindings.proofs.Under.{nothing_under}
use Rattle.table_bindings.proofs.github_context.github_member.Goals as goal

pub returns-in_default : goal.returns-in_default
returns-in_default c =
    let n = c.in_default in
    sym (nothing_under c.args.name.now (github_of_run c.args.event.now c.args.run_id.now c.args.run_number.now c.args.run_attempt.now)
    (n.not-workflow, (n.not-repository, (n.not-event_name, (n.not-run_id, (n.not-run_number, (n.not-run_attempt, tt)))))))

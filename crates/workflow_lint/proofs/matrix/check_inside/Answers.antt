use Rattle.std.proofs.lemmas.Result.{on_ok_weaker}
use Rattle.serde_json.specs.View.{view}
use Rattle.workflow_lint.proofs.Here.{last_renamed, variables_here}
use Rattle.workflow_lint.proofs.matrix.check_inside.Goals as goal

pub returns : goal.returns
returns c =
    on_ok_weaker c.check_variables.result
    (last_renamed c.check_variables.new.found.items c.args.found.now.items c.check_member.new.found.items
    c.check_member-2.new.found.items _ _ _ _ c.in_ok-check_member.ensures c.in_ok-check_member-2.ensures
    (variables_here c.args.path.now (view c.args.value.now) c.args.members.now.entries c.requires))
    c.check_variables.ensures

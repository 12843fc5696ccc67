use Rattle.serde_json.specs.View.{view}
use Rattle.workflow_lint.proofs.Faults.{fault_read, of_flag}
use Rattle.workflow_lint.proofs.check.flag_fault.Goals as goal

pub returns : goal.returns
returns c =
    fault_read _ _ _ _ _ (of_flag c.args.site (view c.args.value.now) _) c.flag_of.ensures c.fault_of.ensures.fault
    c.fault_of.ensures.memory

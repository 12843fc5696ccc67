use Rattle.serde_json.specs.View.{view}
use Rattle.workflow_lint.proofs.Faults.{fault_read, of_label}
use Rattle.workflow_lint.proofs.check.label_fault.Goals as goal

pub returns : goal.returns
returns c =
    fault_read _ _ _ _ _ (of_label (view c.args.value.now) _) c.read_label.ensures c.fault_of.ensures.fault c.fault_of.ensures.memory

use Rattle.workflow_lint.proofs.Faults.{fault_read, of_outcome}
use Rattle.workflow_lint.proofs.concurrency.group_fault.Goals as goal

pub returns : goal.returns
returns c = fault_read _ _ _ _ _ (of_outcome _ _) c.read_group.ensures c.fault_of.ensures.fault c.fault_of.ensures.memory

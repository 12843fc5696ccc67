use Rattle.workflow_lint.proofs.Faults.{fault_given}
use Rattle.workflow_lint.proofs.plan.matrix_fault.Goals as goal

pub returns : goal.returns
returns c = fault_given _ _ _ _ c.of.ensures c.fault_of.ensures.fault c.fault_of.ensures.memory

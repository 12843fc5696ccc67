use Rattle.std.proofs.Common.{◌∙◌, ap, sym}
use Rattle.std.specs.Prelude.{is_some}
use Rattle.wf_expr.specs.ScalarView.{shown}
use Rattle.workflow_lint.proofs.Faults.{some_mapped}
use Rattle.workflow_lint.proofs.check.is_scalar.Goals as goal

pub returns : goal.returns
returns c = c.is_some.ensures ∙ sym (some_mapped shown c.scalar_of.result) ∙ ap is_some c.scalar_of.ensures

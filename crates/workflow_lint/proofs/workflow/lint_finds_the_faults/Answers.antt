use Rattle.workflow_lint.proofs.Laws.{of_text}
use Rattle.workflow_lint.proofs.PlanLaws.{first_of_all}
use Rattle.workflow_lint.proofs.workflow.lint_finds_the_faults.Goals as goal

pub returns-clause-text : goal.returns-clause-text
returns-clause-text c = of_text

pub returns-clause-first : goal.returns-clause-first
returns-clause-first c = first_of_all

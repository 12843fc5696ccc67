use Rattle.std.proofs.Common.{subst}
use Rattle.wf_value.specs.Gives.{Gives}
use Rattle.serde_json.specs.View.{view}
use Rattle.wf_reader.specs.Workflow.{workflow_faults_in, workflow_in}
use Rattle.wf_reader.proofs.BodyCases.{inside_body}
use Rattle.wf_reader.proofs.workflow.read_workflow.Goals as goal

pub returns-clause-gives : goal.returns-clause-gives
returns-clause-gives c =
    subst (Gives (λ w. w) c.workflow_in.result)
    (inside_body workflow_faults_in workflow_in c.args.bytes.now
    (view c.in_ok-value.value) c.in_ok-value.ensures.gives) c.workflow_in.ensures

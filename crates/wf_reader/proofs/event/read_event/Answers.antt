use Rattle.std.proofs.Common.{subst}
use Rattle.wf_value.specs.Gives.{Gives}
use Rattle.serde_json.specs.View.{view}
use Rattle.wf_reader.specs.Event.{event_faults_in, event_in}
use Rattle.wf_reader.proofs.BodyCases.{inside_body}
use Rattle.wf_reader.proofs.event.read_event.Goals as goal

pub returns-clause-gives : goal.returns-clause-gives
returns-clause-gives c =
    subst (Gives (λ e. e) c.event_in.result)
    (inside_body event_faults_in event_in c.args.bytes.now (view c.in_ok-value.value) c.in_ok-value.ensures.gives) c.event_in.ensures

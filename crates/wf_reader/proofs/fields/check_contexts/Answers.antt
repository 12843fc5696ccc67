use Rattle.std.proofs.Common.{sym}
use Rattle.std.proofs.lemmas.List.{at_drop_more}
use Rattle.serde_json.specs.Find.{get}
use Rattle.serde_json.specs.View.{view}
use Rattle.wf_reader.specs.Faults.{optional, object_faults}
use Rattle.wf_reader.proofs.InOrder.{refused_with, first_of_rest}
use Rattle.wf_reader.proofs.fields.check_contexts.Goals as goal

pub returns-in_err-check_context : goal.returns-in_err-check_context
returns-in_err-check_context c =
    refused_with _ _ _ _ c.from_residual.ensures.1 (
    first_of_rest (λ name. optional object_faults (get name.now (view c.args.object.now))) c.args.names.now _ _ _ _ _ _
    c.loop-name.invariant
    (at_drop_more (λ names. names) c.args.names.now c.loop-name.name-index _ c.loop-name-test.true)
    (sym c.in_err-check_context.ensures))

use Rattle.command_encodings.proofs.Known.{kept_body, same_event, fails_kept}
use Rattle.command_encodings.proofs.command_reader.prepared_of.Goals as goal

pub returns-in-Ok-clause-body : goal.returns-in-Ok-clause-body
returns-in-Ok-clause-body c =
    kept_body c.args.body.now c.in_ok-body.body.items c.args.delivery c.args.event _ c.in_ok-body.ensures.items c.in-Ok.ensures.gives

pub returns-in-Ok-clause-event : goal.returns-in-Ok-clause-event
returns-in-Ok-clause-event c =
    same_event c.args.body.now c.in_ok-body.body.items c.args.delivery c.args.event _ c.in_ok-body.ensures.items c.in-Ok.ensures.gives

pub returns-in-Err-clause-body : goal.returns-in-Err-clause-body
returns-in-Err-clause-body c =
    fails_kept c.args.body.now c.in_ok-body.body.items c.args.delivery c.args.event _ c.why.result c.in_ok-body.ensures.items
    c.in-Err.ensures.gives c.why.ensures

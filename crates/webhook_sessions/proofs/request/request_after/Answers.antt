use Rattle.std.proofs.Common.{◌≡◌, Ok, sym, ◌∙◌, arith}
use Rattle.webhook_sessions.specs.Asking.{body_length}
use Rattle.webhook_sessions.proofs.Heads.{body_missing}
use Rattle.webhook_sessions.proofs.request.request_after.Goals as goal

pub returns-in-Ok-2 : goal.returns-in-Ok-2
returns-in-Ok-2 c =
    let is : body_length c.args.head.now ≡ Ok c.in-Ok.size = sym c.body_length.ensures ∙ c.in-Ok.is in
    rw c.none.ensures (body_missing c.args.head.now c.args.head_length c.in-Ok.size c.args.after.now is (omega arith))

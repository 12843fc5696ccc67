use Rattle.std.proofs.Common.{ap, ◌∙◌}
use Rattle.http1.specs.Fields.{known_fields}
use Rattle.webhook_sessions.specs.Fields.{lists_close}
use Rattle.webhook_sessions.proofs.fields.Fields.list_close.Goals as goal

pub returns : goal.returns
unfolding known_fields
returns c = ap (λ k. k.close) c.from_spans.ensures ∙ ap lists_close c.self.view_is

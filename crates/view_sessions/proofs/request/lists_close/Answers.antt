use Rattle.std.proofs.Common.{ap}
use Rattle.http1.specs.Fields.{known_fields}
use Rattle.view_sessions.proofs.request.lists_close.Goals as goal

pub returns : goal.returns
unfolding known_fields
returns c = ap (λ k. k.close) c.from_spans.ensures

use Rattle.std.proofs.lemmas.List.{take-replicate}
use Rattle.view_sessions.proofs.session.zeros.Goals as goal

pub returns : goal.returns
returns c = take-replicate c.args.count 16384 0 c.requires

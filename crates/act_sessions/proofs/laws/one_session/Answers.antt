use Rattle.std.proofs.Common.{[]}
use Rattle.act_sessions.proofs.One.{one_session_by}
use Rattle.act_sessions.proofs.laws.one_session.Goals as goal

pub returns : goal.returns
returns g c f bytes rest other ts us r s a b x y = one_session_by g.P.Protocol.rules g.met.P.Protocol.one f 0 [] bytes rest other ts us r s a b x y

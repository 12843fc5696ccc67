use Rattle.act_sessions.proofs.One as one
use Rattle.act_sessions.proofs.laws.one_session_to_its_end.Goals as goal

pub returns : goal.returns
returns g c never f bytes rest other ts us r s a b x y =
    one.one_to_its_end _ g.P.Protocol.rules g.met.P.Protocol.one never f bytes rest other ts us r s a b x y

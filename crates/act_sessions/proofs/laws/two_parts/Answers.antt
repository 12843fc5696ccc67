use Rattle.act_sessions.proofs.Joining as joining
use Rattle.act_sessions.proofs.laws.two_parts.Goals as goal

pub returns : goal.returns
returns g c from to last x y i1 i2 old mid begin new end before same after =
    joining.two_parts _ g.P.Protocol.rules g.met.P.Protocol.steady from to x y i1 i2 old mid begin new before.0 before.2 same last end after

use Rattle.std.proofs.Common.{rules}
use Rattle.client_loop.proofs.HeldPieces.{at_first}
use Rattle.client_loop.proofs.session.Session.new.Goals as goal

pub invariant_of-result : goal.invariant_of-result
invariant_of-result g c =
    at_first g.P.Protocol.rules c.new-3.result c.new-4.result c.new-5.result c.new-2.result.items c.new.result g.met.P.Protocol.some
    c.new-3.ensures c.new-4.ensures c.new-5.ensures (search rules) c.new.ensures

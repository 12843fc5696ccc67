use Rattle.service_rounds.proofs.Yielding.{turn_more}
use Rattle.service_rounds.proofs.serve.connections.Goals as goal

pub loop-preserved : goal.loop-preserved
loop-preserved c =
    turn_more c.args.hooks c.args.runners c.loop.counter c.loop.connections.items c.push.new.self.items c.push-in-loop.new.self.items
    c.in_ok-push.ensures.items c.in_ok-push-2.ensures.items c.loop.invariant

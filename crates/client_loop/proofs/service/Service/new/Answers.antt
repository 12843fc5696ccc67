use Rattle.std.proofs.Common.{ap}
use Rattle.act_store.specs.StoreState.{StoreState}
use Rattle.client_loop.specs.Slots.{by_port}
use Rattle.client_loop.proofs.Machine.{service_starts}
use Rattle.client_loop.proofs.service.Service.new.Goals as goal

pub invariant_of-result : goal.invariant_of-result
invariant_of-result g c =
    service_starts (by_port c.args.slots.hooks g.P.Protocol.rules g.Q.Protocol.rules) c.args.store c.of-first.result.value.base c.new.result c.args.slots
    c.requires.empty c.covered-covered.ensures.sound (ap (λ (k : StoreState g.row.D.Denot). k.base) c.of-first.ensures) c.new.ensures c.requires.free

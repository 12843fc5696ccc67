use Rattle.std.proofs.Common.{◌==◌, ◌≤◌, length, subst}
use Rattle.std.specs.Prelude.{◌↔◌, IsTrue}
use Rattle.client_loop.proofs.Machine.{covered_test, service_promises}
use Rattle.client_loop.specs.Service.{IsPromised, ServiceState, covered_of, history_of}
use Rattle.client_loop.specs.Slots.{by_port}
use Rattle.client_loop.proofs.service.Service.is_covered.Goals as goal

pub returns-clause-promise : goal.returns-clause-promise
returns-clause-promise g c =
    let f = c.self.inside in
    let p = by_port f.slots.hooks g.P.Protocol.rules g.Q.Protocol.rules in
    let s : ServiceState g.row.D.Denot = record { store = f.store; origin = f.first.value.base; past = f.past; slots = f.slots } in
    let k = c.covered.ensures in
    subst (λ (o : ServiceState g.row.D.Denot). IsPromised (by_port o.slots.hooks g.P.Protocol.rules g.Q.Protocol.rules) g.D.Disk.honest g.D.Disk.images o) c.self.view_is
    (service_promises p s c.self.invariant k.within g.D.Disk.honest g.D.Disk.images k.legal k.promise)

pub returns-clause-covered : goal.returns-clause-covered
returns-clause-covered g c =
    let f = c.self.inside in
    subst (λ (o : ServiceState g.row.D.Denot). IsTrue (c.covered.result == c.entries.result) ↔ (length (history_of o) ≤ covered_of o)) c.self.view_is
    (covered_test f.past f.store.history f.store.covered c.covered.result c.entries.result c.covered.ensures.value c.entries.ensures c.covered.ensures.within)

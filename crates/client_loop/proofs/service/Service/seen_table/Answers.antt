use Rattle.std.proofs.Common.{◌≤◌, length, subst, sym}
use Rattle.client_loop.proofs.SeenTables.{seen_of}
use Rattle.client_loop.specs.Looking.{IsSeen}
use Rattle.client_loop.specs.Service.{IsPromised, ServiceState, covered_of, history_of}
use Rattle.client_loop.specs.Slots.{by_port}
use Rattle.client_loop.proofs.service.Service.seen_table.Goals as goal

pub returns-then-is_covered-clause-seen : goal.returns-then-is_covered-clause-seen
returns-then-is_covered-clause-seen g c =
    let f = c.self.inside in
    let p = by_port f.slots.hooks g.P.Protocol.rules g.Q.Protocol.rules in
    let s : ServiceState g.row.D.Denot = record { store = f.store; origin = f.first.value.base; past = f.past; slots = f.slots } in
    let k = c.is_covered.ensures in
    let promised : IsPromised p g.D.Disk.honest g.D.Disk.images s =
    subst (λ (o : ServiceState g.row.D.Denot). IsPromised (by_port o.slots.hooks g.P.Protocol.rules g.Q.Protocol.rules) g.D.Disk.honest g.D.Disk.images o)
    (sym c.self.view_is) k.promise in
    let all : length (history_of s) ≤ covered_of s =
    subst (λ (o : ServiceState g.row.D.Denot). length (history_of o) ≤ covered_of o) (sym c.self.view_is) (k.covered.0 c.if-is_covered.true) in
    subst (λ (o : ServiceState g.row.D.Denot). IsSeen g.D.Disk.honest g.D.Disk.images o c.table.result.now) c.self.view_is
    (seen_of p g.D.Disk.honest g.D.Disk.images s c.self.invariant.base promised all c.table.result.now c.table.ensures)

use Rattle.std.proofs.Common.{subst}
use Rattle.client_loop.specs.Events.{IsQuiet, Survives}
use Rattle.client_loop.proofs.Happening.{commits, commits_survive}
use Rattle.client_loop.proofs.QuietSteps.{takes_dead, takes_keeps}
use Rattle.client_loop.proofs.Machine.{service_covers}
use Rattle.client_loop.specs.Service.{ServiceState}
use Rattle.client_loop.specs.Slots.{by_port}
use Rattle.client_loop.proofs.service.Service.step.Goals as goal

pub invariant_of-self : goal.invariant_of-self
invariant_of-self g c =
    let f = c.self.inside in
    let p = by_port f.slots.hooks g.P.Protocol.rules g.Q.Protocol.rules in
    let s : ServiceState g.row.D.Denot = record { store = f.store; origin = f.first.value.base; past = f.past; slots = f.slots } in
    let now = c.covered-covered.ensures in
    let t = c.take.ensures in
    let keeps = takes_keeps f.store c.take.new.store c.args.step c.requires c.take.result t.takes now.within in
    service_covers p s c.self.invariant now.within c.take.new.store keeps.base keeps.history keeps.covers

pub returns-clause-quiet : goal.returns-clause-quiet
returns-clause-quiet g c =
    let f = c.self.inside in
    let p = by_port f.slots.hooks g.P.Protocol.rules g.Q.Protocol.rules in
    let s : ServiceState g.row.D.Denot = record { store = f.store; origin = f.first.value.base; past = f.past; slots = f.slots } in
    let now = c.covered-covered.ensures in
    let t = c.take.ensures in
    let keeps = takes_keeps f.store c.take.new.store c.args.step c.requires c.take.result t.takes now.within in
    let disk = g.D.Disk in
    let new : ServiceState g.row.D.Denot = record s { store = c.take.new.store } in
    subst (λ (o : ServiceState g.row.D.Denot). IsQuiet o new) c.self.view_is
    (commits p disk.honest disk.moment disk.images_since disk.images g.met.D.Disk.only_now s c.self.invariant now.within now.legal now.promise
    c.take.new.store keeps.base keeps.history keeps.covers (takes_dead f.store c.take.new.store c.args.step c.requires c.take.result t.takes))

pub returns-clause-survives : goal.returns-clause-survives
returns-clause-survives g c =
    let f = c.self.inside in
    let p = by_port f.slots.hooks g.P.Protocol.rules g.Q.Protocol.rules in
    let s : ServiceState g.row.D.Denot = record { store = f.store; origin = f.first.value.base; past = f.past; slots = f.slots } in
    let now = c.covered-covered.ensures in
    let t = c.take.ensures in
    let keeps = takes_keeps f.store c.take.new.store c.args.step c.requires c.take.result t.takes now.within in
    let disk = g.D.Disk in
    let new : ServiceState g.row.D.Denot = record s { store = c.take.new.store } in
    subst (λ (o : ServiceState g.row.D.Denot). Survives disk.honest disk.moment disk.images_since o new) c.self.view_is
    (commits_survive p disk.honest disk.moment disk.images_since disk.images g.met.D.Disk.only_now s c.self.invariant now.within now.legal now.promise
    c.take.new.store keeps.base keeps.history keeps.covers (takes_dead f.store c.take.new.store c.args.step c.requires c.take.result t.takes) t.survives.any_moment t.survives.stays_honest)

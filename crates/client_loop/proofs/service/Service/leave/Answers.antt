use Rattle.std.proofs.Common.{ℕ, refl, subst}
use Rattle.client_loop.specs.Clients.{SlotLeaves}
use Rattle.client_loop.specs.Events.{Survives}
use Rattle.client_loop.specs.Service.{ServiceLeaves, ServiceState}
use Rattle.client_loop.proofs.Happening.{changes, stays}
use Rattle.client_loop.proofs.Machine.{service_leaves}
use Rattle.client_loop.specs.Slots.{by_port}
use Rattle.client_loop.proofs.service.Service.leave.Goals as goal

pub invariant_of-self : goal.invariant_of-self
invariant_of-self g c =
    let f = c.self.inside in
    let s : ServiceState g.row.D.Denot = record { store = f.store; origin = f.first.value.base; past = f.past; slots = f.slots } in
    service_leaves (λ (hooks : ℕ). by_port hooks g.P.Protocol.rules g.Q.Protocol.rules) s c.self.invariant
    c.covered-covered.ensures.within c.args.index c.leave.new.self c.leave.ensures

pub returns-then-has-clause-leaves : goal.returns-then-has-clause-leaves
returns-then-has-clause-leaves g c = λ below.
    let f = c.self.inside in
    let s : ServiceState g.row.D.Denot = record { store = f.store; origin = f.first.value.base; past = f.past; slots = f.slots } in
    let new : ServiceState g.row.D.Denot = record s { slots = c.leave.new.self } in
    subst (λ (o : ServiceState g.row.D.Denot). ServiceLeaves c.args.index o new) c.self.view_is (record { changed = c.leave.ensures; is = refl })

pub returns-then-has-clause-survives : goal.returns-then-has-clause-survives
returns-then-has-clause-survives g c =
    let f = c.self.inside in
    let s : ServiceState g.row.D.Denot = record { store = f.store; origin = f.first.value.base; past = f.past; slots = f.slots } in
    let p = by_port f.slots.hooks g.P.Protocol.rules g.Q.Protocol.rules in
    let disk = g.D.Disk in
    let k = c.covered-covered.ensures in
    let new : ServiceState g.row.D.Denot = record s { slots = c.leave.new.self } in
    subst (λ (o : ServiceState g.row.D.Denot). Survives disk.honest disk.moment disk.images_since o new) c.self.view_is
    (changes p disk.honest disk.moment disk.images_since disk.images g.met.D.Disk.only_now s c.self.invariant k.within k.legal k.promise SlotLeaves c.args.index c.leave.new.self c.leave.ensures)

pub returns-else-has-clause-survives : goal.returns-else-has-clause-survives
returns-else-has-clause-survives g c =
    let f = c.self.inside in
    let s : ServiceState g.row.D.Denot = record { store = f.store; origin = f.first.value.base; past = f.past; slots = f.slots } in
    let p = by_port f.slots.hooks g.P.Protocol.rules g.Q.Protocol.rules in
    let disk = g.D.Disk in
    let k = c.covered-covered.ensures in
    subst (λ (o : ServiceState g.row.D.Denot). Survives disk.honest disk.moment disk.images_since o o) c.self.view_is
    (stays p disk.honest disk.moment disk.images_since disk.images g.met.D.Disk.only_now s c.self.invariant k.within k.legal k.promise s refl)

use Rattle.std.proofs.Common.{ℕ, [], refl, rules, subst}
use Rattle.client_loop.specs.Events.{Survives}
use Rattle.client_loop.specs.Service.{ServiceHears, ServiceState}
use Rattle.client_loop.proofs.Happening.{hears_or_not, stays}
use Rattle.client_loop.proofs.Machine.{service_hears_or_not}
use Rattle.client_loop.proofs.PortSlots.{no_slot}
use Rattle.client_loop.specs.Clients.{IsOver}
use Rattle.client_loop.specs.Slots.{OfClient, by_port}
use Rattle.client_loop.proofs.service.Service.go_on.Goals as goal

pub invariant_of-self : goal.invariant_of-self
invariant_of-self g c =
    let f = c.self.inside in
    let s : ServiceState g.row.D.Denot = record { store = f.store; origin = f.first.value.base; past = f.past; slots = f.slots } in
    service_hears_or_not (λ (hooks : ℕ). by_port hooks g.P.Protocol.rules g.Q.Protocol.rules) s c.self.invariant
    c.covered-covered.ensures.within c.args.index c.go_on.new.store c.go_on.new.self
    (c.has.ensures.0 (search rules))
    [] c.go_on.result c.go_on.ensures.heard c.go_on.ensures.same

pub returns-clause-heard : goal.returns-clause-heard
returns-clause-heard g c = λ so.
    let f = c.self.inside in
    let s : ServiceState g.row.D.Denot = record { store = f.store; origin = f.first.value.base; past = f.past; slots = f.slots } in
    let new : ServiceState g.row.D.Denot = record s { store = c.go_on.new.store; slots = c.go_on.new.self } in
    subst (λ (o : ServiceState g.row.D.Denot). ServiceHears (by_port o.slots.hooks g.P.Protocol.rules g.Q.Protocol.rules) c.args.index [] o new) c.self.view_is
    (record { hears = c.go_on.ensures.heard so; is = refl })

pub returns-clause-survives : goal.returns-clause-survives
returns-clause-survives g c =
    let f = c.self.inside in
    let s : ServiceState g.row.D.Denot = record { store = f.store; origin = f.first.value.base; past = f.past; slots = f.slots } in
    let p = by_port f.slots.hooks g.P.Protocol.rules g.Q.Protocol.rules in
    let disk = g.D.Disk in
    let k = c.covered-covered.ensures in
    let new : ServiceState g.row.D.Denot = record s { store = c.go_on.new.store; slots = c.go_on.new.self } in
    subst (λ (o : ServiceState g.row.D.Denot). Survives disk.honest disk.moment disk.images_since o new) c.self.view_is
    (hears_or_not p disk.honest disk.moment disk.images_since disk.images g.met.D.Disk.only_now s c.self.invariant k.within k.legal k.promise c.args.index
    c.go_on.new.store c.go_on.new.self [] c.go_on.result c.go_on.ensures.heard c.go_on.ensures.same)

pub returns-then-not-has-clause-survives : goal.returns-then-not-has-clause-survives
returns-then-not-has-clause-survives g c =
    let f = c.self.inside in
    let s : ServiceState g.row.D.Denot = record { store = f.store; origin = f.first.value.base; past = f.past; slots = f.slots } in
    let p = by_port f.slots.hooks g.P.Protocol.rules g.Q.Protocol.rules in
    let disk = g.D.Disk in
    let k = c.covered-covered.ensures in
    subst (λ (o : ServiceState g.row.D.Denot). Survives disk.honest disk.moment disk.images_since o o) c.self.view_is
    (stays p disk.honest disk.moment disk.images_since disk.images g.met.D.Disk.only_now s c.self.invariant k.within k.legal k.promise s refl)

pub returns-then-not-has-clause-over : goal.returns-then-not-has-clause-over
returns-then-not-has-clause-over g c = λ so.
    subst (λ (o : ServiceState g.row.D.Denot). OfClient IsOver o.slots c.args.index) c.self.view_is
    (no_slot IsOver c.self.inside.slots c.args.index c.has.result c.has.ensures (search rules))

pub returns-clause-over : goal.returns-clause-over
returns-clause-over g c = λ so.
    subst (λ (o : ServiceState g.row.D.Denot). OfClient IsOver o.slots c.args.index) c.self.view_is (c.go_on.ensures.over so)

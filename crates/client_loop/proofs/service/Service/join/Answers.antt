use Rattle.std.proofs.Common.{ℕ, refl, subst}
use Rattle.client_loop.specs.Clients.{SlotJoins, wire_of}
use Rattle.client_loop.specs.Events.{Survives}
use Rattle.client_loop.specs.Service.{ServiceJoins, ServiceState}
use Rattle.client_loop.proofs.Happening.{changes_or_not, stays}
use Rattle.client_loop.proofs.Machine.{service_joins_or_not}
use Rattle.client_loop.proofs.PortSlots.{nobody_follows}
use Rattle.client_loop.specs.Slots.{by_port}
use Rattle.client_loop.proofs.service.Service.join.Goals as goal

pub invariant_of-self : goal.invariant_of-self
invariant_of-self g c =
    let f = c.self.inside in
    let s : ServiceState g.row.D.Denot = record { store = f.store; origin = f.first.value.base; past = f.past; slots = f.slots } in
    service_joins_or_not (λ (hooks : ℕ). by_port hooks g.P.Protocol.rules g.Q.Protocol.rules) s c.self.invariant
    c.covered-covered.ensures.within c.args.index (wire_of g.S.Stream.remaining g.S.Stream.contents c.args.stream) c.join.new.self
    (nobody_follows f.slots.hooks g.P.Protocol.rules g.Q.Protocol.rules c.args.index g.met.P.Protocol.some g.met.Q.Protocol.some)
    c.join.result c.join.ensures.joined (λ so. (c.join.ensures.taken so).1)

pub returns-clause-joined : goal.returns-clause-joined
returns-clause-joined g c = λ so.
    let f = c.self.inside in
    let s : ServiceState g.row.D.Denot = record { store = f.store; origin = f.first.value.base; past = f.past; slots = f.slots } in
    let new : ServiceState g.row.D.Denot = record s { slots = c.join.new.self } in
    subst (λ (o : ServiceState g.row.D.Denot). ServiceJoins c.args.index (wire_of g.S.Stream.remaining g.S.Stream.contents c.args.stream) o new) c.self.view_is
    (record { changed = c.join.ensures.joined so; is = refl })

pub returns-clause-survives : goal.returns-clause-survives
returns-clause-survives g c =
    let f = c.self.inside in
    let s : ServiceState g.row.D.Denot = record { store = f.store; origin = f.first.value.base; past = f.past; slots = f.slots } in
    let p = by_port f.slots.hooks g.P.Protocol.rules g.Q.Protocol.rules in
    let disk = g.D.Disk in
    let k = c.covered-covered.ensures in
    let new : ServiceState g.row.D.Denot = record s { slots = c.join.new.self } in
    subst (λ (o : ServiceState g.row.D.Denot). Survives disk.honest disk.moment disk.images_since o new) c.self.view_is
    (changes_or_not p disk.honest disk.moment disk.images_since disk.images g.met.D.Disk.only_now s c.self.invariant k.within k.legal k.promise
    (SlotJoins (wire_of g.S.Stream.remaining g.S.Stream.contents c.args.stream)) c.args.index c.join.new.self c.join.result c.join.ensures.joined (λ so. (c.join.ensures.taken so).1))

pub returns-then-not-has-clause-survives : goal.returns-then-not-has-clause-survives
returns-then-not-has-clause-survives g c =
    let f = c.self.inside in
    let s : ServiceState g.row.D.Denot = record { store = f.store; origin = f.first.value.base; past = f.past; slots = f.slots } in
    let p = by_port f.slots.hooks g.P.Protocol.rules g.Q.Protocol.rules in
    let disk = g.D.Disk in
    let k = c.covered-covered.ensures in
    subst (λ (o : ServiceState g.row.D.Denot). Survives disk.honest disk.moment disk.images_since o o) c.self.view_is
    (stays p disk.honest disk.moment disk.images_since disk.images g.met.D.Disk.only_now s c.self.invariant k.within k.legal k.promise s refl)

use Rattle.std.proofs.Common.{ℕ, refl, rules, subst}
use Rattle.std.specs.Prelude.{IfNone, IfSome}
use Rattle.client_loop.specs.Clients.{IsDrained, SlotDiscards}
use Rattle.client_loop.specs.Events.{Survives}
use Rattle.client_loop.specs.Service.{ServiceDiscards, ServiceState}
use Rattle.client_loop.proofs.Happening.{changes_some, stays}
use Rattle.client_loop.proofs.Machine.{service_discards_some}
use Rattle.client_loop.proofs.PortSlots.{no_slot, some_then}
use Rattle.client_loop.specs.Slots.{OfClient, by_port}
use Rattle.client_loop.proofs.service.Service.discard.Goals as goal

pub invariant_of-self : goal.invariant_of-self
invariant_of-self g c =
    let f = c.self.inside in
    let s : ServiceState g.row.D.Denot = record { store = f.store; origin = f.first.value.base; past = f.past; slots = f.slots } in
    service_discards_some (λ (hooks : ℕ). by_port hooks g.P.Protocol.rules g.Q.Protocol.rules) s c.self.invariant
    c.covered-covered.ensures.within c.args.index c.discard.new.self c.discard.result c.discard.ensures.discarded c.discard.ensures.none

pub returns-clause-discarded : goal.returns-clause-discarded
returns-clause-discarded g c =
    let f = c.self.inside in
    let s : ServiceState g.row.D.Denot = record { store = f.store; origin = f.first.value.base; past = f.past; slots = f.slots } in
    let new : ServiceState g.row.D.Denot = record s { slots = c.discard.new.self } in
    subst (λ (o : ServiceState g.row.D.Denot). IfSome c.discard.result (λ n. ServiceDiscards c.args.index o new)) c.self.view_is
    (some_then c.discard.result _ _ (λ n change. record { changed = change; is = refl }) c.discard.ensures.discarded)

pub returns-clause-survives : goal.returns-clause-survives
returns-clause-survives g c =
    let f = c.self.inside in
    let s : ServiceState g.row.D.Denot = record { store = f.store; origin = f.first.value.base; past = f.past; slots = f.slots } in
    let p = by_port f.slots.hooks g.P.Protocol.rules g.Q.Protocol.rules in
    let disk = g.D.Disk in
    let k = c.covered-covered.ensures in
    let new : ServiceState g.row.D.Denot = record s { slots = c.discard.new.self } in
    subst (λ (o : ServiceState g.row.D.Denot). Survives disk.honest disk.moment disk.images_since o new) c.self.view_is
    (changes_some p disk.honest disk.moment disk.images_since disk.images g.met.D.Disk.only_now s c.self.invariant k.within k.legal k.promise
    (λ (n : ℕ). SlotDiscards) c.args.index c.discard.new.self c.discard.result c.discard.ensures.discarded c.discard.ensures.none)

pub returns-then-not-has-clause-survives : goal.returns-then-not-has-clause-survives
returns-then-not-has-clause-survives g c =
    let f = c.self.inside in
    let s : ServiceState g.row.D.Denot = record { store = f.store; origin = f.first.value.base; past = f.past; slots = f.slots } in
    let p = by_port f.slots.hooks g.P.Protocol.rules g.Q.Protocol.rules in
    let disk = g.D.Disk in
    let k = c.covered-covered.ensures in
    subst (λ (o : ServiceState g.row.D.Denot). Survives disk.honest disk.moment disk.images_since o o) c.self.view_is
    (stays p disk.honest disk.moment disk.images_since disk.images g.met.D.Disk.only_now s c.self.invariant k.within k.legal k.promise s refl)

pub returns-then-not-has-clause-silent : goal.returns-then-not-has-clause-silent
returns-then-not-has-clause-silent g c =
    subst (λ (o : ServiceState g.row.D.Denot). OfClient IsDrained o.slots c.args.index) c.self.view_is
    (no_slot IsDrained c.self.inside.slots c.args.index c.has.result c.has.ensures (search rules))

pub returns-clause-silent : goal.returns-clause-silent
returns-clause-silent g c =
    subst (λ (o : ServiceState g.row.D.Denot). IfNone c.discard.result (OfClient IsDrained o.slots c.args.index)) c.self.view_is c.discard.ensures.silent

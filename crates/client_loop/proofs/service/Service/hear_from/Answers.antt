use Rattle.std.proofs.Common.{ℕ, ◌<◌, length, refl, rules, subst, sym, take}
use Rattle.std.specs.Prelude.{IfNone, IfSome, slice_get}
use Rattle.client_loop.specs.Clients.{IsUnheard}
use Rattle.client_loop.specs.Events.{Survives}
use Rattle.client_loop.specs.Service.{ServiceHears, ServiceState}
use Rattle.client_loop.proofs.Happening.{hears_some, stays}
use Rattle.client_loop.proofs.Machine.{service_hears_some}
use Rattle.client_loop.proofs.PortSlots.{none_then, not_awaited, silent_unheard, some_then}
use Rattle.client_loop.specs.Slots.{OfClient, by_port, client_in}
use Rattle.client_loop.proofs.service.Service.hear_from.Goals as goal

pub invariant_of-self : goal.invariant_of-self
invariant_of-self g c =
    let f = c.self.inside in
    let s : ServiceState g.row.D.Denot = record { store = f.store; origin = f.first.value.base; past = f.past; slots = f.slots } in
    service_hears_some (λ (hooks : ℕ). by_port hooks g.P.Protocol.rules g.Q.Protocol.rules) s c.self.invariant
    c.covered-covered.ensures.within c.args.index c.hear_from.new.store c.hear_from.new.self
    (subst (λ (o : ServiceState g.row.D.Denot). c.args.index < length o.slots.all) (sym c.self.view_is) (c.awaits_input.ensures.slot (search rules)))
    (λ (n : ℕ). take n c.hear_from.new.buffer.items) c.hear_from.result c.hear_from.ensures.heard c.hear_from.ensures.none

pub returns-clause-heard : goal.returns-clause-heard
returns-clause-heard g c =
    let f = c.self.inside in
    let s : ServiceState g.row.D.Denot = record { store = f.store; origin = f.first.value.base; past = f.past; slots = f.slots } in
    let new : ServiceState g.row.D.Denot = record s { store = c.hear_from.new.store; slots = c.hear_from.new.self } in
    subst (λ (o : ServiceState g.row.D.Denot). IfSome c.hear_from.result (λ n. ServiceHears (by_port o.slots.hooks g.P.Protocol.rules g.Q.Protocol.rules)
    c.args.index (take n c.hear_from.new.buffer.items) o new)) c.self.view_is
    (some_then c.hear_from.result _ _ (λ n change. record { hears = change; is = refl }) c.hear_from.ensures.heard)

pub returns-clause-survives : goal.returns-clause-survives
returns-clause-survives g c =
    let f = c.self.inside in
    let s : ServiceState g.row.D.Denot = record { store = f.store; origin = f.first.value.base; past = f.past; slots = f.slots } in
    let p = by_port f.slots.hooks g.P.Protocol.rules g.Q.Protocol.rules in
    let disk = g.D.Disk in
    let k = c.covered-covered.ensures in
    let new : ServiceState g.row.D.Denot = record s { store = c.hear_from.new.store; slots = c.hear_from.new.self } in
    subst (λ (o : ServiceState g.row.D.Denot). Survives disk.honest disk.moment disk.images_since o new) c.self.view_is
    (hears_some p disk.honest disk.moment disk.images_since disk.images g.met.D.Disk.only_now s c.self.invariant k.within k.legal k.promise c.args.index
    c.hear_from.new.store c.hear_from.new.self (λ (n : ℕ). take n c.hear_from.new.buffer.items) c.hear_from.result c.hear_from.ensures.heard c.hear_from.ensures.none)

pub returns-then-not-awaits_input-clause-survives : goal.returns-then-not-awaits_input-clause-survives
returns-then-not-awaits_input-clause-survives g c =
    let f = c.self.inside in
    let s : ServiceState g.row.D.Denot = record { store = f.store; origin = f.first.value.base; past = f.past; slots = f.slots } in
    let p = by_port f.slots.hooks g.P.Protocol.rules g.Q.Protocol.rules in
    let disk = g.D.Disk in
    let k = c.covered-covered.ensures in
    subst (λ (o : ServiceState g.row.D.Denot). Survives disk.honest disk.moment disk.images_since o o) c.self.view_is
    (stays p disk.honest disk.moment disk.images_since disk.images g.met.D.Disk.only_now s c.self.invariant k.within k.legal k.promise s refl)

pub returns-then-not-awaits_input-clause-unheard : goal.returns-then-not-awaits_input-clause-unheard
returns-then-not-awaits_input-clause-unheard g c =
    not_awaited (client_in (slice_get c.args.self.now.slots.all c.args.index)) c.awaits_input.result c.awaits_input.ensures.exact (search rules)

pub returns-clause-unheard : goal.returns-clause-unheard
returns-clause-unheard g c =
    subst (λ (o : ServiceState g.row.D.Denot). IfNone c.hear_from.result (OfClient IsUnheard o.slots c.args.index)) c.self.view_is
    (none_then c.hear_from.result _ _ (silent_unheard (client_in (slice_get c.self.inside.slots.all c.args.index))) c.hear_from.ensures.silent)

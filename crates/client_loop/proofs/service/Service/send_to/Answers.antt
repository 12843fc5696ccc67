use Rattle.std.proofs.Common.{ℕ, [], ◌≡◌, refl, rules, subst, sym}
use Rattle.std.specs.Prelude.{IfNone, IfSome}
use Rattle.client_loop.specs.Clients.{IsParted, SlotSends}
use Rattle.client_loop.specs.Entering.{part_of}
use Rattle.client_loop.specs.Events.{Survives}
use Rattle.client_loop.specs.Service.{ServiceSends, ServiceState, pending_of}
use Rattle.client_loop.proofs.Happening.{changes_some, stays}
use Rattle.client_loop.proofs.Machine.{service_sends_some}
use Rattle.client_loop.proofs.PendingPart.{is_pending}
use Rattle.client_loop.proofs.PortSlots.{no_slot, none_then, some_then}
use Rattle.client_loop.specs.Slots.{OfClient, by_port}
use Rattle.client_loop.proofs.service.Service.send_to.Goals as goal

pub invariant_of-self : goal.invariant_of-self
invariant_of-self g c =
    let f = c.self.inside in
    let s : ServiceState g.row.D.Denot = record { store = f.store; origin = f.first.value.base; past = f.past; slots = f.slots } in
    let may : part_of c.args.index (pending_of c.args.self.now) ≡ [] = c.may_send.ensures.0 (search rules) in
    let none : part_of c.args.index (pending_of s) ≡ [] =
    subst (λ (o : ServiceState g.row.D.Denot). part_of c.args.index (pending_of o) ≡ []) (sym c.self.view_is) may in
    service_sends_some (λ (hooks : ℕ). by_port hooks g.P.Protocol.rules g.Q.Protocol.rules) s c.self.invariant
    c.covered-covered.ensures.within c.args.index c.send_to.new.self none c.send_to.result c.send_to.ensures.sent c.send_to.ensures.none

pub returns-clause-sent : goal.returns-clause-sent
returns-clause-sent g c =
    let f = c.self.inside in
    let s : ServiceState g.row.D.Denot = record { store = f.store; origin = f.first.value.base; past = f.past; slots = f.slots } in
    let may : part_of c.args.index (pending_of c.args.self.now) ≡ [] = c.may_send.ensures.0 (search rules) in
    let none : part_of c.args.index (pending_of s) ≡ [] =
    subst (λ (o : ServiceState g.row.D.Denot). part_of c.args.index (pending_of o) ≡ []) (sym c.self.view_is) may in
    let new : ServiceState g.row.D.Denot = record s { slots = c.send_to.new.self } in
    subst (λ (o : ServiceState g.row.D.Denot). IfSome c.send_to.result (λ n. ServiceSends (by_port o.slots.hooks g.P.Protocol.rules g.Q.Protocol.rules)
    c.args.index n o new)) c.self.view_is
    (some_then c.send_to.result _ _ (λ n change. record { covered = none; sends = change; is = refl }) c.send_to.ensures.sent)

pub returns-clause-survives : goal.returns-clause-survives
returns-clause-survives g c =
    let f = c.self.inside in
    let s : ServiceState g.row.D.Denot = record { store = f.store; origin = f.first.value.base; past = f.past; slots = f.slots } in
    let p = by_port f.slots.hooks g.P.Protocol.rules g.Q.Protocol.rules in
    let disk = g.D.Disk in
    let k = c.covered-covered.ensures in
    let new : ServiceState g.row.D.Denot = record s { slots = c.send_to.new.self } in
    subst (λ (o : ServiceState g.row.D.Denot). Survives disk.honest disk.moment disk.images_since o new) c.self.view_is
    (changes_some p disk.honest disk.moment disk.images_since disk.images g.met.D.Disk.only_now s c.self.invariant k.within k.legal k.promise
    (λ (n : ℕ). SlotSends (p c.args.index) n) c.args.index c.send_to.new.self c.send_to.result c.send_to.ensures.sent c.send_to.ensures.none)

pub returns-then-not-has-clause-survives : goal.returns-then-not-has-clause-survives
returns-then-not-has-clause-survives g c =
    let f = c.self.inside in
    let s : ServiceState g.row.D.Denot = record { store = f.store; origin = f.first.value.base; past = f.past; slots = f.slots } in
    let p = by_port f.slots.hooks g.P.Protocol.rules g.Q.Protocol.rules in
    let disk = g.D.Disk in
    let k = c.covered-covered.ensures in
    subst (λ (o : ServiceState g.row.D.Denot). Survives disk.honest disk.moment disk.images_since o o) c.self.view_is
    (stays p disk.honest disk.moment disk.images_since disk.images g.met.D.Disk.only_now s c.self.invariant k.within k.legal k.promise s refl)

pub returns-then-not-may_send-clause-survives : goal.returns-then-not-may_send-clause-survives
returns-then-not-may_send-clause-survives g c =
    let f = c.self.inside in
    let s : ServiceState g.row.D.Denot = record { store = f.store; origin = f.first.value.base; past = f.past; slots = f.slots } in
    let p = by_port f.slots.hooks g.P.Protocol.rules g.Q.Protocol.rules in
    let disk = g.D.Disk in
    let k = c.covered-covered.ensures in
    subst (λ (o : ServiceState g.row.D.Denot). Survives disk.honest disk.moment disk.images_since o o) c.self.view_is
    (stays p disk.honest disk.moment disk.images_since disk.images g.met.D.Disk.only_now s c.self.invariant k.within k.legal k.promise s refl)

pub returns-then-not-has-clause-unsent : goal.returns-then-not-has-clause-unsent
returns-then-not-has-clause-unsent g c = λ _.
    subst (λ (o : ServiceState g.row.D.Denot). OfClient IsParted o.slots c.args.index) c.self.view_is
    (no_slot IsParted c.self.inside.slots c.args.index c.has.result c.has.ensures (search rules))

pub returns-then-not-may_send-clause-unsent : goal.returns-then-not-may_send-clause-unsent
returns-then-not-may_send-clause-unsent g c = λ none.
    absurd (is_pending c.may_send.result (part_of c.args.index (pending_of c.args.self.now) ≡ []) (search rules) c.may_send.ensures none)

pub returns-clause-unsent : goal.returns-clause-unsent
returns-clause-unsent g c =
    let f = c.self.inside in
    let s : ServiceState g.row.D.Denot = record { store = f.store; origin = f.first.value.base; past = f.past; slots = f.slots } in
    subst (λ (o : ServiceState g.row.D.Denot). IfNone c.send_to.result (part_of c.args.index (pending_of o) ≡ [] → OfClient IsParted o.slots c.args.index)) c.self.view_is
    (none_then c.send_to.result _ _ (λ so. λ _. so) c.send_to.ensures.parted)

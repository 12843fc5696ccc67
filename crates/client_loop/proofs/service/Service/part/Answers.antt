use Rattle.std.proofs.Common.{ℕ, ap, refl, rules, subst, sym}
use Rattle.act_store.specs.StoreState.{StoreState}
use Rattle.client_loop.specs.Events.{Survives}
use Rattle.client_loop.specs.Service.{IsService, IsStuck, ServiceParts, ServiceState}
use Rattle.client_loop.proofs.Happening.{parts_or_not, stays}
use Rattle.client_loop.proofs.Machine.{service_parts_or_not}
use Rattle.client_loop.proofs.PendingPart.{not_stuck, stuck_of}
use Rattle.client_loop.proofs.PortSlots.{no_slot}
use Rattle.client_loop.specs.Clients.{OwesNothing}
use Rattle.client_loop.specs.Slots.{OfClient, by_port}
use Rattle.client_loop.proofs.service.Service.part.Goals as goal

pub invariant_of-self : goal.invariant_of-self
invariant_of-self g c =
    let f = c.self.inside in
    let s : ServiceState g.row.D.Denot = record { store = f.store; origin = f.first.value.base; past = f.past; slots = f.slots } in
    let P : StoreState g.row.D.Denot → Type 0 = λ k. IsService (by_port f.slots.hooks g.P.Protocol.rules g.Q.Protocol.rules) (record s { store = k }) in
    subst P (sym c.is_stuck.ensures.same) c.self.invariant

pub invariant_of-self-2 : goal.invariant_of-self-2
invariant_of-self-2 g c =
    let f = c.self.inside in
    let s : ServiceState g.row.D.Denot = record { store = f.store; origin = f.first.value.base; past = f.past; slots = f.slots } in
    service_parts_or_not (λ (hooks : ℕ). by_port hooks g.P.Protocol.rules g.Q.Protocol.rules) s c.self.invariant
    c.covered-covered.ensures.within c.args.index c.is_stuck.new.store c.part.new.self c.is_stuck.ensures.same c.part.result c.part.ensures.parted c.part.ensures.same

pub returns-clause-parted : goal.returns-clause-parted
returns-clause-parted g c = λ so.
    let f = c.self.inside in
    let s : ServiceState g.row.D.Denot = record { store = f.store; origin = f.first.value.base; past = f.past; slots = f.slots } in
    let new : ServiceState g.row.D.Denot = record s { store = c.is_stuck.new.store; slots = c.part.new.self } in
    let stuck : IsStuck c.args.index s =
    stuck_of s c.args.index (c.is_stuck.ensures.failed (search rules)) (c.is_stuck.ensures.pending (search rules)) in
    let parts = c.part.ensures.parted so in (
      parts.0,
      subst (λ (o : ServiceState g.row.D.Denot). ServiceParts (by_port o.slots.hooks g.P.Protocol.rules g.Q.Protocol.rules) c.args.index parts.0 o new)
          c.self.view_is (record {
            stuck = stuck;
            parts = parts.1;
            is = ap (λ (t : StoreState g.row.D.Denot). record s { store = t; slots = c.part.new.self }) c.is_stuck.ensures.same;
          }),
    )

pub returns-clause-survives : goal.returns-clause-survives
returns-clause-survives g c =
    let f = c.self.inside in
    let s : ServiceState g.row.D.Denot = record { store = f.store; origin = f.first.value.base; past = f.past; slots = f.slots } in
    let p = by_port f.slots.hooks g.P.Protocol.rules g.Q.Protocol.rules in
    let disk = g.D.Disk in
    let k = c.covered-covered.ensures in
    let new : ServiceState g.row.D.Denot = record s { store = c.is_stuck.new.store; slots = c.part.new.self } in
    subst (λ (o : ServiceState g.row.D.Denot). Survives disk.honest disk.moment disk.images_since o new) c.self.view_is
    (parts_or_not p disk.honest disk.moment disk.images_since disk.images g.met.D.Disk.only_now s c.self.invariant k.within k.legal k.promise c.args.index
    c.is_stuck.new.store c.part.new.self c.is_stuck.ensures.same c.part.result c.part.ensures.parted c.part.ensures.same)

pub returns-then-not-has-clause-survives : goal.returns-then-not-has-clause-survives
returns-then-not-has-clause-survives g c =
    let f = c.self.inside in
    let s : ServiceState g.row.D.Denot = record { store = f.store; origin = f.first.value.base; past = f.past; slots = f.slots } in
    let p = by_port f.slots.hooks g.P.Protocol.rules g.Q.Protocol.rules in
    let disk = g.D.Disk in
    let k = c.covered-covered.ensures in
    subst (λ (o : ServiceState g.row.D.Denot). Survives disk.honest disk.moment disk.images_since o o) c.self.view_is
    (stays p disk.honest disk.moment disk.images_since disk.images g.met.D.Disk.only_now s c.self.invariant k.within k.legal k.promise s refl)

pub returns-then-not-is_stuck-clause-survives : goal.returns-then-not-is_stuck-clause-survives
returns-then-not-is_stuck-clause-survives g c =
    let f = c.self.inside in
    let s : ServiceState g.row.D.Denot = record { store = f.store; origin = f.first.value.base; past = f.past; slots = f.slots } in
    let p = by_port f.slots.hooks g.P.Protocol.rules g.Q.Protocol.rules in
    let disk = g.D.Disk in
    let k = c.covered-covered.ensures in
    let new : ServiceState g.row.D.Denot = record s { store = c.is_stuck.new.store } in
    subst (λ (o : ServiceState g.row.D.Denot). Survives disk.honest disk.moment disk.images_since o new) c.self.view_is
    (stays p disk.honest disk.moment disk.images_since disk.images g.met.D.Disk.only_now s c.self.invariant k.within k.legal k.promise new
    (ap (λ (t : StoreState g.row.D.Denot). record s { store = t }) c.is_stuck.ensures.same))

pub returns-then-not-has-clause-owed : goal.returns-then-not-has-clause-owed
returns-then-not-has-clause-owed g c = λ parted stuck.
    subst (λ (o : ServiceState g.row.D.Denot). OfClient OwesNothing o.slots c.args.index) c.self.view_is
    (no_slot OwesNothing c.self.inside.slots c.args.index c.has.result c.has.ensures (search rules))

pub returns-then-not-is_stuck-clause-owed : goal.returns-then-not-is_stuck-clause-owed
returns-then-not-is_stuck-clause-owed g c = λ parted stuck.
    let f = c.self.inside in
    let s : ServiceState g.row.D.Denot = record { store = f.store; origin = f.first.value.base; past = f.past; slots = f.slots } in
    let here : IsStuck c.args.index s = subst (λ (o : ServiceState g.row.D.Denot). IsStuck c.args.index o) (sym c.self.view_is) stuck in
    absurd (not_stuck s c.args.index here (c.is_stuck.ensures.live (search rules)))

pub returns-clause-owed : goal.returns-clause-owed
returns-clause-owed g c = λ parted stuck.
    subst (λ (o : ServiceState g.row.D.Denot). OfClient OwesNothing o.slots c.args.index) c.self.view_is (c.part.ensures.owes parted)

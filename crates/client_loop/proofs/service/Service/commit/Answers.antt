use Rattle.std.proofs.Common.{◌≡◌, ◌∙◌, ap, false, subst, true}
use Rattle.std.specs.Prelude.{IfErr}
use Rattle.act_disk.specs.Failed.{device_failed}
use Rattle.act_store.specs.StoreState.{StoreState}
use Rattle.client_loop.specs.Events.{IsBroken, IsQuiet, Survives}
use Rattle.client_loop.proofs.Happening.{commits, commits_survive}
use Rattle.client_loop.proofs.Machine.{commit_breaks, commit_keeps, service_covers}
use Rattle.client_loop.specs.Service.{ServiceState}
use Rattle.client_loop.specs.Slots.{by_port}
use Rattle.client_loop.proofs.service.Service.commit.Goals as goal

pub invariant_of-self : goal.invariant_of-self
invariant_of-self g c =
    let f = c.self.inside in
    let p = by_port f.slots.hooks g.P.Protocol.rules g.Q.Protocol.rules in
    let s : ServiceState g.row.D.Denot = record { store = f.store; origin = f.first.value.base; past = f.past; slots = f.slots } in
    let k = c.commit.ensures in
    let keeps = commit_keeps f.store c.commit.new.self c.commit.result c.covered-covered.ensures.within k.all k.some k.failed k.broken in
    service_covers p s c.self.invariant c.covered-covered.ensures.within c.commit.new.self keeps.0 keeps.1 k.grows

pub returns-clause-quiet : goal.returns-clause-quiet
returns-clause-quiet g c =
    let f = c.self.inside in
    let p = by_port f.slots.hooks g.P.Protocol.rules g.Q.Protocol.rules in
    let s : ServiceState g.row.D.Denot = record { store = f.store; origin = f.first.value.base; past = f.past; slots = f.slots } in
    let disk = g.D.Disk in
    let now = c.covered-covered.ensures in
    let k = c.commit.ensures in
    let keeps = commit_keeps f.store c.commit.new.self c.commit.result now.within k.all k.some k.failed k.broken in
    let new : ServiceState g.row.D.Denot = record s { store = c.commit.new.self } in
    subst (λ (o : ServiceState g.row.D.Denot). IsQuiet o new) c.self.view_is
    (commits p disk.honest disk.moment disk.images_since disk.images g.met.D.Disk.only_now s c.self.invariant now.within now.legal now.promise
    c.commit.new.self keeps.0 keeps.1 k.grows (λ failed. (k.failed failed).1))

pub returns-clause-survives : goal.returns-clause-survives
returns-clause-survives g c =
    let f = c.self.inside in
    let p = by_port f.slots.hooks g.P.Protocol.rules g.Q.Protocol.rules in
    let s : ServiceState g.row.D.Denot = record { store = f.store; origin = f.first.value.base; past = f.past; slots = f.slots } in
    let disk = g.D.Disk in
    let now = c.covered-covered.ensures in
    let k = c.commit.ensures in
    let keeps = commit_keeps f.store c.commit.new.self c.commit.result now.within k.all k.some k.failed k.broken in
    let new : ServiceState g.row.D.Denot = record s { store = c.commit.new.self } in
    subst (λ (o : ServiceState g.row.D.Denot). Survives disk.honest disk.moment disk.images_since o new) c.self.view_is
    (commits_survive p disk.honest disk.moment disk.images_since disk.images g.met.D.Disk.only_now s c.self.invariant now.within now.legal now.promise
    c.commit.new.self keeps.0 keeps.1 k.grows (λ failed. (k.failed failed).1) k.any_moment k.honest)

pub returns-clause-refused : goal.returns-clause-refused
returns-clause-refused g c = λ failed.
    let f = c.self.inside in
    let s : ServiceState g.row.D.Denot = record { store = f.store; origin = f.first.value.base; past = f.past; slots = f.slots } in
    let was : f.store.failed ≡ true = ap (λ (o : ServiceState g.row.D.Denot). o.store.failed) c.self.view_is ∙ failed in
    let k = c.commit.ensures.failed was in
    (k.0, ap (λ (t : StoreState g.row.D.Denot). record s { store = t }) k.1 ∙ c.self.view_is)

pub returns-clause-broken : goal.returns-clause-broken
returns-clause-broken g c =
    let f = c.self.inside in
    let s : ServiceState g.row.D.Denot = record { store = f.store; origin = f.first.value.base; past = f.past; slots = f.slots } in
    let k = c.commit.ensures in
    subst (λ (o : ServiceState g.row.D.Denot). IfErr c.commit.result (λ e. o.store.failed ≡ false
    → (e ≡ device_failed) × IsBroken o (record s { store = c.commit.new.self }))) c.self.view_is
    (commit_breaks s c.commit.new.self c.commit.result k.refused k.pending k.broken)

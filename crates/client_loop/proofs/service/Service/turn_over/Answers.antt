use Rattle.std.proofs.Common.{◌≡◌, ◌∙◌, List, ap, rules, subst, sym}
use Rattle.std.specs.Prelude.{None}
use Rattle.act_store.specs.Plain.{refusal_of_turn_over, turned_over}
use Rattle.act_store.specs.declared.entry.Entry.{Entry}
use Rattle.act_store.specs.StoreState.{StoreState}
use Rattle.client_loop.specs.Events.{IsQuiet, Survives}
use Rattle.client_loop.proofs.Happening.{stays, still_quiet, turns, turns_survive}
use Rattle.client_loop.proofs.QuietSteps.{on_err, turns_live}
use Rattle.client_loop.proofs.Machine.{all_covered, service_turns}
use Rattle.client_loop.specs.Service.{IsService, ServiceState, history_of}
use Rattle.client_loop.specs.Slots.{by_port}
use Rattle.client_loop.proofs.service.Service.turn_over.Goals as goal

pub invariant_of-self-2 : goal.invariant_of-self-2
invariant_of-self-2 g c =
    let f = c.self.inside in
    let p = by_port f.slots.hooks g.P.Protocol.rules g.Q.Protocol.rules in
    let s : ServiceState g.row.D.Denot = record { store = f.store; origin = f.first.value.base; past = f.past; slots = f.slots } in
    let now = c.covered-covered.ensures in
    let none : refusal_of_turn_over f.store ≡ None = search rules in
    let past = c.with-past.result in
    let P : StoreState g.row.D.Denot → Type 0 = λ k. IsService p (record s { store = k; past = past }) in
    subst P (sym c.in_ok-turn_over.ensures.turned)
    (service_turns p s c.self.invariant now.within now.legal (all_covered f.store none now.within) past c.with-past.ensures)

pub returns-in_err-turn_over-clause-survives : goal.returns-in_err-turn_over-clause-survives
returns-in_err-turn_over-clause-survives g c =
    let f = c.self.inside in
    let p = by_port f.slots.hooks g.P.Protocol.rules g.Q.Protocol.rules in
    let s : ServiceState g.row.D.Denot = record { store = f.store; origin = f.first.value.base; past = f.past; slots = f.slots } in
    let disk = g.D.Disk in
    let k = c.covered-covered.ensures in
    let new : ServiceState g.row.D.Denot = record s { store = c.turn_over.new.self } in
    subst (λ (o : ServiceState g.row.D.Denot). Survives disk.honest disk.moment disk.images_since o new) c.self.view_is
    (stays p disk.honest disk.moment disk.images_since disk.images g.met.D.Disk.only_now s c.self.invariant k.within k.legal k.promise new
    (ap (λ (t : StoreState g.row.D.Denot). record s { store = t }) c.in_err-turn_over.ensures.unchanged))

pub returns-clause-survives : goal.returns-clause-survives
returns-clause-survives g c =
    let f = c.self.inside in
    let p = by_port f.slots.hooks g.P.Protocol.rules g.Q.Protocol.rules in
    let s : ServiceState g.row.D.Denot = record { store = f.store; origin = f.first.value.base; past = f.past; slots = f.slots } in
    let disk = g.D.Disk in
    let k = c.covered-covered.ensures in
    let none : refusal_of_turn_over f.store ≡ None = search rules in
    let past = c.with-past.result in
    let P : StoreState g.row.D.Denot → Type 0 = λ t. Survives disk.honest disk.moment disk.images_since s (record s { store = t; past = past }) in
    let new : ServiceState g.row.D.Denot = record s { store = c.turn_over.new.self; past = past } in
    subst (λ (o : ServiceState g.row.D.Denot). Survives disk.honest disk.moment disk.images_since o new) c.self.view_is
    (subst P (sym c.in_ok-turn_over.ensures.turned)
    (turns_survive p disk.honest disk.moment disk.images_since disk.images g.met.D.Disk.only_now s c.self.invariant k.within k.legal k.promise past
    c.with-past.ensures (all_covered f.store none k.within) (turns_live f.store none)))

pub returns-clause-quiet : goal.returns-clause-quiet
returns-clause-quiet g c =
    let f = c.self.inside in
    let p = by_port f.slots.hooks g.P.Protocol.rules g.Q.Protocol.rules in
    let s : ServiceState g.row.D.Denot = record { store = f.store; origin = f.first.value.base; past = f.past; slots = f.slots } in
    let disk = g.D.Disk in
    let k = c.covered-covered.ensures in
    let none : refusal_of_turn_over f.store ≡ None = search rules in
    let past = c.with-past.result in
    let P : StoreState g.row.D.Denot → Type 0 = λ t. IsQuiet s (record s { store = t; past = past }) in
    let new : ServiceState g.row.D.Denot = record s { store = c.turn_over.new.self; past = past } in
    subst (λ (o : ServiceState g.row.D.Denot). IsQuiet o new) c.self.view_is
    (subst P (sym c.in_ok-turn_over.ensures.turned)
    (turns p disk.honest disk.moment disk.images_since disk.images g.met.D.Disk.only_now s c.self.invariant k.within k.legal k.promise past
    c.with-past.ensures (all_covered f.store none k.within) (turns_live f.store none)))

pub returns-in_err-turn_over-clause-quiet : goal.returns-in_err-turn_over-clause-quiet
returns-in_err-turn_over-clause-quiet g c =
    let f = c.self.inside in
    let p = by_port f.slots.hooks g.P.Protocol.rules g.Q.Protocol.rules in
    let s : ServiceState g.row.D.Denot = record { store = f.store; origin = f.first.value.base; past = f.past; slots = f.slots } in
    let disk = g.D.Disk in
    let k = c.covered-covered.ensures in
    let new : ServiceState g.row.D.Denot = record s { store = c.turn_over.new.self } in
    subst (λ (o : ServiceState g.row.D.Denot). IsQuiet o new) c.self.view_is
    (still_quiet s new (ap (λ (t : StoreState g.row.D.Denot). record s { store = t }) c.in_err-turn_over.ensures.unchanged))

pub returns-clause-turned : goal.returns-clause-turned
returns-clause-turned g c =
    let f = c.self.inside in
    let s : ServiceState g.row.D.Denot = record { store = f.store; origin = f.first.value.base; past = f.past; slots = f.slots } in
    subst (λ (o : ServiceState g.row.D.Denot). record s { store = c.turn_over.new.self; past = c.with-past.result }
    ≡ record o { store = turned_over o.store; past = history_of o }) c.self.view_is
    (ap (λ (t : StoreState g.row.D.Denot). record s { store = t; past = c.with-past.result }) c.in_ok-turn_over.ensures.turned
    ∙ ap (λ (l : List Entry). record s { store = turned_over s.store; past = l }) c.with-past.ensures)

pub returns-in_err-turn_over-clause-unchanged : goal.returns-in_err-turn_over-clause-unchanged
returns-in_err-turn_over-clause-unchanged g c =
    let f = c.self.inside in
    let s : ServiceState g.row.D.Denot = record { store = f.store; origin = f.first.value.base; past = f.past; slots = f.slots } in
    on_err _ (ap (λ (t : StoreState g.row.D.Denot). record s { store = t }) c.in_err-turn_over.ensures.unchanged ∙ c.self.view_is)

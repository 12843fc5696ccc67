use Rattle.std.proofs.Common.{◌∙◌, List, ap, drop, subst, sym, take}
use Rattle.act_store.specs.StoreState.{table_of}
use Rattle.act_store.specs.declared.entry.Entry.{Entry}
use Rattle.covered_log.specs.Lines.{entries_of}
use Rattle.service_views.specs.Following.{cancelled_in}
use Rattle.service_views.specs.GivenLeases.{LeasesState, NotesOf}
use Rattle.service_views.proofs.FollowingLemmas.{taken_up, tells_of}
use Rattle.service_views.proofs.changes.Changes.take_up.Goals as goal

pub returns-clause-entered : goal.returns-clause-entered
returns-clause-entered g c = λ room.
    let es : List Entry = drop c.args.self.now.taken (take c.args.store.now.covered c.args.store.now.history) in
    c.look_since.ensures.entries ∙ ap entries_of c.enter_new.ensures.told ∙ taken_up c.args.self.now.log.changes c.args.at es room

pub returns-clause-told : goal.returns-clause-told
returns-clause-told g c =
    let es : List Entry = drop c.args.self.now.taken (take c.args.store.now.covered c.args.store.now.history) in
    tells_of c.args.at (cancelled_in es) (table_of c.args.store.now) c.enter_new.new.self.log.changes _ c.args.self.now c.enter_new.new.self
    c.look_since.new.self c.enter_new.ensures.told c.enter_new.ensures.standings c.look_since.ensures.told

pub returns-clause-leases : goal.returns-clause-leases
returns-clause-leases g c =
    let es : List Entry = drop c.args.self.now.taken (take c.args.store.now.covered c.args.store.now.history) in
    subst (λ (s : LeasesState). NotesOf es c.args.self.now.leases s) (sym c.look_since.ensures.leases) c.enter_new.ensures.leases

use Rattle.std.proofs.Common.{rules, ◌≡◌, ◌∙◌, List, drop, take}
use Rattle.act_store.specs.StoreState.{table_of}
use Rattle.act_store.specs.declared.entry.Entry.{Entry}
use Rattle.service_views.specs.Following.{cancelled_in}
use Rattle.service_views.proofs.FollowingLemmas.{tells_same}
use Rattle.service_views.proofs.changes.Changes.look_since.Goals as goal

pub returns-clause-told : goal.returns-clause-told
returns-clause-told g c =
    let es : List Entry = drop c.args.taken (take c.args.store.now.covered c.args.store.now.history) in
    let given : c.as_slice.result.now ≡ c.in-Ok.cancelled.items = search rules in
    tells_same c.args.at c.as_slice.result.now (cancelled_in es) c.table-2.result.now (table_of c.args.store.now) c.args.self.now.log.changes
    c.args.self.now c.look_new.new.self (given ∙ c.in-Ok.ensures) c.table-2.ensures c.look_new.ensures.told

use Rattle.std.proofs.Common.{subst}
use Rattle.table_model.specs.Sound.{IsSound}
use Rattle.act_store.specs.GroupsOfHistory.{KeepsGroups}
use Rattle.act_store.specs.StoreState.{StoreState, RecoverToCovered}
use Rattle.act_store.proofs.GroupsOfHistory.{keeps_groups}
use Rattle.act_store.specs.inner.StoreSeen.{as_state}
use Rattle.act_store.proofs.Settling.{recover_to_covered}
use Rattle.act_store.proofs.store.Store.covered.Goals as goal

pub returns-clause-sound : goal.returns-clause-sound
returns-clause-sound g c = subst (λ (v : StoreState g.row.D.Denot). IsSound v.base) c.self.view_is c.self.invariant.0.sound

pub returns-clause-groups : goal.returns-clause-groups
returns-clause-groups g c =
    let s = c.self.inside in
    subst (λ (v : StoreState g.row.D.Denot). KeepsGroups v.base v.history) c.self.view_is
    (keeps_groups s.base.value s.history.items c.self.invariant.0.sound)

pub returns-clause-exact : goal.returns-clause-exact
returns-clause-exact g c =
    let s = c.self.inside in
    let disk = g.D.Disk in
    subst (λ (v : StoreState g.row.D.Denot). disk.honest v.disk → RecoverToCovered disk.images v) c.self.view_is
    (λ honest. recover_to_covered disk.images s.areas.side s.other (as_state s) c.self.invariant.0.size (c.self.invariant.2 honest))

use Rattle.std.specs.Prelude.{List, Option, Some, IfSome, slice_get, slice_set, refl}
use Rattle.std.proofs.Common.{ap, subst, ◌≡◌, ◌≤◌, ◌∙◌, ◌<◌, length, arith, rules}
use Rattle.std.proofs.lemmas.Option.{slice_get_read}
use Rattle.table_model.specs.Changes.{changed, offered_by}
use Rattle.table_model.specs.Groups.{run_facts}
use Rattle.table_model.specs.Runs.{with_run, RunState}
use Rattle.table_model.specs.declared.sites.LegSite.{LegSite}
use Rattle.table_model.proofs.Doors.{changed_past, changed_within}
use Rattle.table_bindings.specs.inner.LabelNumbers.{IsOffered, IsReadyAt, LegsAreOffered}
use Rattle.table_runs.proofs.Stays.{changed_facts}
use Rattle.table_runs.specs.inner.RowsKept.{RowState}
use Rattle.table_runs.proofs.LegsOffered.{has_place, offered_after}
use Rattle.table_runs.proofs.ReadyBefore.{ready_before}
use Rattle.table_runs.proofs.StillBound.{still_kept}
use Rattle.table_runs.proofs.SizesKept.{change_fits, size_changed}
use Rattle.table_runs.proofs.rows.Rows.change.Goals as goal

pub invariant_of-self : goal.invariant_of-self
invariant_of-self c =
    let items = c.self.inside.runs.items in
    let bindings = c.self.inside.bindings.items in
    let r = c.args.r in
    let change = c.args.change in
    let old = c.index_mut-run.result.now in
    let new = c.change.new.self in
    let next = with_run r (changed change) items in
    let within : r < length items = search rules in
    let is_next : slice_set items r new ≡ next =
    changed_within (changed change) items r old new within c.index_mut-run.ensures.value c.change.ensures in
    let requested_at : slice_get bindings r ≡ Some c.index-bindings.result.now =
    slice_get_read bindings (length bindings) r c.index-bindings.result.now refl (omega (arith, within, c.self.invariant.0.bound.as_many))
    c.index-bindings.ensures in
    let was = c.self.inside.index.lists in
    let lists = c.offer.new.lists in
    let one : IfSome (offered_by r change) (IsOffered lists c.index-bindings.result.now) =
    subst (λ (leg : Option LegSite). IfSome leg (IsOffered lists c.index-bindings.result.now)) c.offered-offered.ensures c.offer.ensures.itself in
    let offered : LegsAreOffered (slice_set items r new) bindings lists =
    offered_after items (slice_set items r new) bindings was lists r change c.index-bindings.result.now requested_at
    (λ p ready. ready_before items r change p (subst (λ (rs : List RunState). IsReadyAt rs p) is_next ready)) one c.offer.ensures.others
    c.self.invariant.0.offered in (
      still_kept items bindings c.self.inside.index lists c.self.inside.active c.mark.new.self r old new offered within
          c.index_mut-run.ensures.value
          (ap run_facts c.change.ensures ∙ changed_facts change old) c.mark.ensures.keeps c.mark.ensures.puts c.self.invariant.0,
      size_changed items r old new change c.self.inside.text c.size_added-more.result within c.index_mut-run.ensures.value c.change.ensures
          c.size_added-more.ensures c.self.invariant.1,
    )

pub overflow_add-self : goal.overflow_add-self
overflow_add-self c =
    let items = c.self.inside.runs.items in
    let within : c.args.r < length items = search rules in
    omega (
      arith,
      change_fits items c.args.r c.index_mut-run.result.now c.change.new.self c.args.change c.self.inside.text c.size_added-more.result within
          c.index_mut-run.ensures.value c.change.ensures c.size_added-more.ensures c.self.invariant.1 c.self.invariant.0.few,
    )

pub mark-requires : goal.mark-requires
mark-requires c =
    let within : c.args.r < length c.self.inside.runs.items = search rules in omega (arith, within, c.self.invariant.0.active.covers)

pub offer-requires : goal.offer-requires
offer-requires c =
    let bindings = c.self.inside.bindings.items in
    let r = c.args.r in
    let requested_at : slice_get bindings r ≡ Some c.index-bindings.result.now =
    slice_get_read bindings (length bindings) r c.index-bindings.result.now refl (search rules) c.index-bindings.ensures in
    has_place c.self.inside.index.lists r c.args.change c.index-bindings.result.now
    (c.self.invariant.0.offered.numbers r c.index-bindings.result.now requested_at) c.offered-offered.result c.offered-offered.ensures

pub returns-then-r-len-clause-runs : goal.returns-then-r-len-clause-runs
returns-then-r-len-clause-runs c =
    let items = c.self.inside.runs.items in
    let within : c.args.r < length items = search rules in
    changed_within (changed c.args.change) items c.args.r c.index_mut-run.result.now c.change.new.self within c.index_mut-run.ensures.value
    c.change.ensures
    ∙ ap (λ (rows : RowState). with_run c.args.r (changed c.args.change) rows.runs) c.self.view_is

pub returns-else-r-len-clause-runs : goal.returns-else-r-len-clause-runs
returns-else-r-len-clause-runs c =
    let past : length c.args.self.now.runs ≤ c.args.r =
    subst (λ (rows : RowState). length rows.runs ≤ c.args.r) c.self.view_is (search rules) in
    changed_past (changed c.args.change) c.args.self.now.runs c.args.r past

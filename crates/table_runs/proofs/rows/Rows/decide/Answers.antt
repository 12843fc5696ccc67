use Rattle.std.specs.Prelude.{◌≡◌, ◌<◌, ◌≤◌, List, Option, Some, length, slice_get, slice_set, refl}
use Rattle.std.specs.Option.{option_map_or}
use Rattle.std.proofs.Common.{ap, arith, rules, subst, sym, ◌∙◌}
use Rattle.std.proofs.lemmas.Option.{slice_get_past, slice_get_read}
use Rattle.table_model.specs.Runs.{changed_at, RunState}
use Rattle.table_model.proofs.Changed.{length-changed_at}
use Rattle.table_model.proofs.Doors.{changed_within}
use Rattle.table_bindings.specs.Bindings.{AreBound}
use Rattle.table_bindings.specs.declared.bindings.RunBindings.{RunBindings}
use Rattle.table_runs.specs.inner.GroupsKept.{arrivals_to_come}
use Rattle.table_runs.specs.inner.RowsKept.{RowState, RunsAreKept, decided_in, keys_decided}
use Rattle.table_runs.proofs.ArrivalsToCome.{fewer_to_come}
use Rattle.table_runs.proofs.StillBound.{kept_rekeyed, one_rekeyed}
use Rattle.table_runs.proofs.rows.Rows.decide.Goals as goal

pub invariant_of-self : goal.invariant_of-self
invariant_of-self c =
    let bindings = c.self.inside.bindings.items in
    let r = c.args.r in
    let old = c.index_mut-bindings.result.now in
    let new = c.decide_job.new.bindings in
    let change : RunBindings → RunBindings = decided_in c.args.j c.index.result.now in
    let within : r < length bindings = search rules in
    let is : slice_set bindings r new ≡ changed_at r change bindings =
    changed_within change bindings r old new within c.index_mut-bindings.ensures.value c.decide_job.ensures.decided in (
      subst (λ (bs : List RunBindings). RunsAreKept c.self.inside.runs.items bs c.self.inside.index c.self.inside.active)
          (sym is)
          (kept_rekeyed c.self.inside.runs.items bindings (changed_at r change bindings) c.self.inside.index
          c.self.inside.active (length-changed_at r change bindings)
          (one_rekeyed r change bindings (λ b. record { own = refl; jobs = refl; lists = refl })) c.self.invariant.0),
      c.self.invariant.1,
    )

pub returns-then-r-len-clause-decided : goal.returns-then-r-len-clause-decided
returns-then-r-len-clause-decided c =
    let runs = c.self.inside.runs.items in
    let bindings = c.self.inside.bindings.items in
    let r = c.args.r in
    let j = c.args.j in
    let run = c.index.result.now in
    let within : r < length runs = search rules in
    let at : slice_get runs r ≡ Some run = slice_get_read runs (length runs) r run refl within c.index.ensures in
    changed_within (decided_in j run) bindings r c.index_mut-bindings.result.now c.decide_job.new.bindings
    (omega (arith, within, c.self.invariant.0.bound.as_many)) c.index_mut-bindings.ensures.value c.decide_job.ensures.decided
    ∙ sym (ap (λ (o : Option RunState). option_map_or (λ (x : RunState). changed_at r (decided_in j x) bindings) o bindings) at)
    ∙ ap (λ (rows : RowState). keys_decided r j rows.runs rows.bindings) c.self.view_is

pub returns-then-r-len-clause-without : goal.returns-then-r-len-clause-without
returns-then-r-len-clause-without c =
    let bindings = c.self.inside.bindings.items in
    let r = c.args.r in
    let old = c.index_mut-bindings.result.now in
    let within : r < length c.self.inside.runs.items = search rules in
    let at : slice_get bindings r ≡ Some old =
    slice_get_read bindings (length bindings) r old refl (omega (arith, within, c.self.invariant.0.bound.as_many)) c.index_mut-bindings.ensures.value in
    fewer_to_come bindings r old c.decide_job.new.bindings c.decide_job.result at c.decide_job.ensures.without
    ∙ ap (λ (rows : RowState). arrivals_to_come rows.bindings) c.self.view_is

pub decide_job-requires : goal.decide_job-requires
decide_job-requires c =
    let bindings = c.self.inside.bindings.items in
    let r = c.args.r in
    let old = c.index_mut-bindings.result.now in
    let within : r < length c.self.inside.runs.items = search rules in
    let at : slice_get bindings r ≡ Some old =
    slice_get_read bindings (length bindings) r old refl (omega (arith, within, c.self.invariant.0.bound.as_many)) c.index_mut-bindings.ensures.value in
    c.requires old (sym (ap (λ (rows : RowState). slice_get rows.bindings r) c.self.view_is) ∙ at)

pub returns-else-r-len-clause-decided : goal.returns-else-r-len-clause-decided
returns-else-r-len-clause-decided c =
    let rows = c.args.self.now in
    let past : length rows.runs ≤ c.args.r = subst (λ (s : RowState). length s.runs ≤ c.args.r) c.self.view_is (search rules) in
    sym (ap (λ (o : Option RunState). option_map_or (λ (x : RunState). changed_at c.args.r (decided_in c.args.j x) rows.bindings) o rows.bindings)
    (slice_get_past rows.runs c.args.r past))

pub returns-then-r-len-clause-bound : goal.returns-then-r-len-clause-bound
returns-then-r-len-clause-bound c = subst (λ (rows : RowState). AreBound rows.runs rows.bindings) c.self.view_is c.self.invariant.0.bound

pub returns-else-r-len-clause-bound : goal.returns-else-r-len-clause-bound
returns-else-r-len-clause-bound c = subst (λ (rows : RowState). AreBound rows.runs rows.bindings) c.self.view_is c.self.invariant.0.bound

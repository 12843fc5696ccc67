use Rattle.std.specs.Prelude.{◌≡◌, ◌<◌, ◌≤◌, ◌+◌, ℕ, List, IfSome, Some, count_by, length, map, slice_get, slice_set, refl}
use Rattle.std.proofs.Common.{ap, rules, subst, sym, ◌∙◌}
use Rattle.std.proofs.lemmas.Option.{slice_get_read}
use Rattle.table_model.specs.Runs.{changed_at}
use Rattle.table_model.proofs.Doors.{changed_past, changed_within}
use Rattle.table_bindings.specs.GroupKeys.{AreLater, KeyState, arrivals_of, decided, has_no_group}
use Rattle.table_bindings.specs.declared.group_keys.HolderKey.{HolderKey}
use Rattle.table_bindings.specs.declared.groups.GroupRequest.{GroupRequest}
use Rattle.table_bindings.proofs.DecidedKeys.{arrivals_after}
use Rattle.table_bindings.proofs.group_keys.GroupKeys.decide.Goals as goal

-- memory is taken for the job's legs
later_there : (requests : List GroupRequest) (own : HolderKey) (jobs : List (List HolderKey)) (keys : KeyState) (j : ℕ) (legs : List HolderKey)
    → record { own = own; jobs = jobs } ≡ keys → IfSome (slice_get keys.jobs j) (AreLater requests) → slice_get jobs j ≡ Some legs
    → AreLater requests legs
later_there requests own jobs keys j legs is later at =
    subst (λ o. IfSome o (AreLater requests)) at (subst (λ (k : KeyState). IfSome (slice_get k.jobs j) (AreLater requests)) (sym is) later)

pub decide-requires : goal.decide-requires
decide-requires g c =
    let jobs = c.self.inside.jobs.items in
    let within : c.args.j < length jobs = search rules in
    later_there c.args.requests.now c.self.inside.own jobs c.args.self.now c.args.j c.index_mut-legs.result.now c.self.view_is c.requires
    (slice_get_read jobs (length jobs) c.args.j c.index_mut-legs.result.now refl within c.index_mut-legs.ensures.value)

pub returns-then-j-len-clause-without : goal.returns-then-j-len-clause-without
returns-then-j-len-clause-without g c =
    let own = c.self.inside.own in
    let jobs = c.self.inside.jobs.items in
    let j = c.args.j in
    let results = g.R.NeedResults.result_of c.args.results.now in
    let requests = c.args.requests.now in
    let old = c.index_mut-legs.result.now in
    let new = c.decide.new.self in
    let n = c.without_group.result in
    let within : j < length jobs = search rules in
    let at : slice_get jobs j ≡ Some old = slice_get_read jobs (length jobs) j old refl within c.index_mut-legs.ensures.value in
    let later = later_there requests own jobs c.args.self.now j old c.self.view_is c.requires at in
    let count : n ≡ count_by has_no_group (map (decided results) requests) =
    c.without_group.ensures ∙ ap (count_by has_no_group) c.decide.ensures in
    let is : slice_set jobs j new ≡ changed_at j (λ _. map (decided results) requests) jobs =
    changed_within (λ _. map (decided results) requests) jobs j old new within c.index_mut-legs.ensures.value c.decide.ensures in
    ap (λ (js : List (List HolderKey)). arrivals_of (record { own = own; jobs = js }) + n) is
    ∙ arrivals_after results requests old jobs own j n at later count
    ∙ ap arrivals_of c.self.view_is

pub returns-then-j-len-clause-jobs : goal.returns-then-j-len-clause-jobs
returns-then-j-len-clause-jobs g c =
    let results = g.R.NeedResults.result_of c.args.results.now in
    let keys = map (decided results) c.args.requests.now in
    changed_within (λ (legs : List HolderKey). keys) c.self.inside.jobs.items c.args.j c.index_mut-legs.result.now c.decide.new.self (search rules)
    c.index_mut-legs.ensures.value c.decide.ensures
    ∙ ap (λ (k : KeyState). changed_at c.args.j (λ (legs : List HolderKey). keys) k.jobs) c.self.view_is

pub returns-else-j-len-clause-jobs : goal.returns-else-j-len-clause-jobs
returns-else-j-len-clause-jobs g c =
    let results = g.R.NeedResults.result_of c.args.results.now in
    let past : length c.args.self.now.jobs ≤ c.args.j =
    subst (λ (keys : KeyState). length keys.jobs ≤ c.args.j) c.self.view_is (search rules) in
    changed_past (λ (legs : List HolderKey). map (decided results) c.args.requests.now) c.args.self.now.jobs c.args.j past

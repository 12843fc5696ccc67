use Rattle.std.proofs.Common.{◌≡◌, ◌≤◌, ℕ, List, Option, None, false, ap, arith, length, sym, ◌∙◌, subst, rules}
use Rattle.std.specs.BTreeMap.{get}
use Rattle.std.specs.Ordering.{nat_cmp}
use Rattle.std.specs.Prelude.{MatchOption, true}
use Rattle.definitions.specs.Limits.{last_number}
use Rattle.stored_tables.specs.Stored.{RunnerParts, TableParts}
use Rattle.stored_tables.specs.inner.ByLease.{lease_of_runner}
use Rattle.stored_tables.specs.inner.ByNumber.{Finds}
use Rattle.table_model.specs.Forgotten.{ForgottenRuns}
use Rattle.table_model.specs.Sound.{ForgottenFit, IdsFollow, IsSound, KeptLeasesAreOfLegs, NumbersFollow}
use Rattle.stored_tables.specs.TableOf.{AreRunnersAs}
use Rattle.table_model.specs.AsPlanned.{AreAsPlanned}
use Rattle.table_model.specs.TableState.{RunnerState, names_rise}
use Rattle.table_model.specs.Groups.{HasOneEach}
use Rattle.table_model.specs.Parts.{AreRunsOf, RunParts}
use Rattle.table_model.specs.Runs.{RunState}
use Rattle.table_model.proofs.OneAfterAnother.{not_so}
use Rattle.stored_tables.proofs.PartsRead.{kept_of_legs}
use Rattle.stored_tables.proofs.StoredOnce.{as_many_runs, none_forgotten_so, none_listed, none_numbered, none_planned, none_sound, stored_as}
use Rattle.stored_tables.proofs.parts.TableParts.table.Goals as goal
use Rattle.stored_tables.proofs.parts.TableParts.table.Goals.{In-Some, In-Some-2, In-Some-3}

-- ---- what the calls gave

abbrev Fits : ForgottenRuns → ForgottenRuns → Type 0
Fits parts forgotten = (forgotten ≡ parts) × ForgottenFit parts × (parts.through ≤ last_number)

abbrev Unfit : ForgottenRuns → Type 0
Unfit parts = ForgottenFit parts → parts.through ≤ last_number → ⊥

abbrev AreTheRuns : ForgottenRuns → List RunParts → List RunState → Type 0
AreTheRuns forgotten parts runs = AreRunsOf forgotten parts runs × AreAsPlanned runs × HasOneEach runs

abbrev NoRuns : ForgottenRuns → List RunParts → Type 0
NoRuns forgotten parts = (runs : List RunState) → AreRunsOf forgotten parts runs → AreAsPlanned runs → HasOneEach runs → ⊥

abbrev AreTheRunners : ℕ → List RunState → List RunnerParts → List RunnerState → Type 0
AreTheRunners last runs parts runners = AreRunnersAs last runs parts runners × (names_rise runners ≡ true)

abbrev NoRunners : ℕ → List RunState → List RunnerParts → Type 0
NoRunners last runs parts = (runners : List RunnerState) → AreRunnersAs last runs parts runners → names_rise runners ≡ true → ⊥

its_forgotten : (c : In-Some) → Fits c.self.inside.forgotten c.in-Some.forgotten
its_forgotten c =
    subst (λ (o : Option ForgottenRuns). MatchOption o (Unfit c.self.inside.forgotten) (Fits c.self.inside.forgotten)) c.in-Some.is
    c.in_ok-forgotten.ensures.of

is_kept : (c : In-Some) → c.in-Some.forgotten ≡ c.args.self.now.forgotten
is_kept c = (its_forgotten c).0 ∙ ap (λ (s : TableParts). s.forgotten) c.self.view_is

-- the runs, after the forgotten ones
its_runs : (c : In-Some-2) → c.in-Some.forgotten ≡ c.args.self.now.forgotten → AreTheRuns c.args.self.now.forgotten c.args.self.now.runs c.in-Some-2.runs
its_runs c kept =
    let given = c.as_slice-of_runs.result.now in
    let same : given ≡ c.args.self.now.runs = c.as_slice-of_runs.ensures ∙ ap (λ (s : TableParts). s.runs) c.self.view_is in
    let these = subst (λ (o : Option (List RunState)). MatchOption o (NoRuns c.in-Some.forgotten given) (AreTheRuns c.in-Some.forgotten given))
    c.in-Some-2.is c.in_ok-runs.ensures.of in
    subst (λ (f : ForgottenRuns). AreTheRuns f c.args.self.now.runs c.in-Some-2.runs) kept
    (subst (λ (ps : List RunParts). AreTheRuns c.in-Some.forgotten ps c.in-Some-2.runs) same these)

-- and the runners
its_runners : (c : In-Some-3) → AreTheRunners c.self.inside.last_lease c.in-Some-2.runs c.args.self.now.runners c.in-Some-3.runners.items
its_runners c =
    let last = c.self.inside.last_lease in
    let given = c.as_slice-of_runners.result.now in
    let same : given ≡ c.args.self.now.runners = c.as_slice-of_runners.ensures ∙ ap (λ (s : TableParts). s.runners) c.self.view_is in
    let those : AreTheRunners last c.in-Some-2.runs given c.in-Some-3.runners.items = rw c.in-Some-3.is at c.in_ok-runners.ensures.of in
    subst (λ (ps : List RunnerParts). AreTheRunners last c.in-Some-2.runs ps c.in-Some-3.runners.items) same those

-- ---- no table has the parts

pub returns-in_default-clause-of : goal.returns-in_default-clause-of
returns-in_default-clause-of c =
    let parts = c.self.inside.forgotten in
    let nothing : c.in_ok-forgotten.field-0 ≡ None = search rules in
    let none = subst (λ (o : Option ForgottenRuns). MatchOption o (Unfit parts) (Fits parts)) nothing c.in_ok-forgotten.ensures.of in
    none_forgotten_so c.args.self.now (subst Unfit (ap (λ (s : TableParts). s.forgotten) c.self.view_is) none)

pub returns-then-of_runs-through-clause-of : goal.returns-then-of_runs-through-clause-of
returns-then-of_runs-through-clause-of c =
    let kept = is_kept (goal.at.returns-then-of_runs-through-clause-of c).In-Some in
    let given = c.as_slice-of_runs.ensures ∙ ap (λ (s : TableParts). s.runs) c.self.view_is in
    none_numbered c.args.self.now
    (omega (arith, c.through.ensures.through, ap (λ (f : ForgottenRuns). f.through) kept, ap (λ (ps : List RunParts). length ps) given))

pub of_parts-requires : goal.of_parts-requires
of_parts-requires c = omega (arith, c.through.ensures.through, c.through.ensures.most)

pub returns-in_default-2-clause-of : goal.returns-in_default-2-clause-of
returns-in_default-2-clause-of c =
    let forgotten = c.in-Some.forgotten in
    let given = c.as_slice-of_runs.result.now in
    let same : given ≡ c.args.self.now.runs = c.as_slice-of_runs.ensures ∙ ap (λ (s : TableParts). s.runs) c.self.view_is in
    let nothing : c.in_ok-runs.field-0 ≡ None = search rules in
    let none = subst (λ (o : Option (List RunState)). MatchOption o (NoRuns forgotten given) (AreTheRuns forgotten given)) nothing
    c.in_ok-runs.ensures.of in
    none_planned c.args.self.now
    (subst (λ (f : ForgottenRuns). NoRuns f c.args.self.now.runs) (is_kept (goal.at.returns-in_default-2-clause-of c).In-Some)
    (subst (λ (ps : List RunParts). NoRuns forgotten ps) same none))

pub runners_of-requires-clause-ids : goal.runners_of-requires-clause-ids
runners_of-requires-clause-ids c =
    let at = goal.at.runners_of-requires-clause-ids c in
    subst (λ (f : ForgottenRuns). IdsFollow f c.in-Some-2.runs) (sym (is_kept at.In-Some)) (its_runs at.In-Some-2 (is_kept at.In-Some)).0.ids

pub runners_of-requires-clause-planned : goal.runners_of-requires-clause-planned
runners_of-requires-clause-planned c =
    let at = goal.at.runners_of-requires-clause-planned c in (its_runs at.In-Some-2 (is_kept at.In-Some)).1

pub returns-in_default-3-clause-of : goal.returns-in_default-3-clause-of
returns-in_default-3-clause-of c =
    let at = goal.at.returns-in_default-3-clause-of c in
    let last = c.self.inside.last_lease in
    let runs = c.in-Some-2.runs in
    let given = c.as_slice-of_runners.result.now in
    let same : given ≡ c.args.self.now.runners = c.as_slice-of_runners.ensures ∙ ap (λ (s : TableParts). s.runners) c.self.view_is in
    let nothing : c.in_ok-runners.field-0 ≡ None = search rules in
    let none : NoRunners last runs given = rw nothing at c.in_ok-runners.ensures.of in
    none_listed c.args.self.now last runs (ap (λ (s : TableParts). s.last_lease) c.self.view_is)
    (its_runs at.In-Some-2 (is_kept at.In-Some)).0
    (subst (λ (ps : List RunnerParts). NoRunners last runs ps) same none)

-- ---- the table that has them

pub is_sound-requires-clause-planned : goal.is_sound-requires-clause-planned
is_sound-requires-clause-planned c =
    let at = goal.at.is_sound-requires-clause-planned c in (its_runs at.In-Some-2 (is_kept at.In-Some)).1

pub is_sound-requires-clause-groups : goal.is_sound-requires-clause-groups
is_sound-requires-clause-groups c =
    let at = goal.at.is_sound-requires-clause-groups c in (its_runs at.In-Some-2 (is_kept at.In-Some)).2

pub is_sound-requires-clause-fit : goal.is_sound-requires-clause-fit
is_sound-requires-clause-fit c =
    let its = its_forgotten (goal.at.is_sound-requires-clause-fit c).In-Some in subst ForgottenFit (sym its.0) its.1

pub is_sound-requires-clause-last : goal.is_sound-requires-clause-last
is_sound-requires-clause-last c =
    let at = goal.at.is_sound-requires-clause-last c in
    let many = as_many_runs c.args.self.now.forgotten c.args.self.now.runs c.in-Some-2.runs (its_runs at.In-Some-2 (is_kept at.In-Some)).0 in
    let given = c.as_slice-of_runs.ensures ∙ ap (λ (s : TableParts). s.runs) c.self.view_is in
    omega (arith, many, ap (λ (ps : List RunParts). length ps) given, c.through.ensures.through, c.through.ensures.most)

pub is_sound-requires-clause-ids : goal.is_sound-requires-clause-ids
is_sound-requires-clause-ids c =
    let at = goal.at.is_sound-requires-clause-ids c in
    subst (λ (f : ForgottenRuns). IdsFollow f c.in-Some-2.runs) (sym (is_kept at.In-Some)) (its_runs at.In-Some-2 (is_kept at.In-Some)).0.ids

pub is_sound-requires-clause-numbers : goal.is_sound-requires-clause-numbers
is_sound-requires-clause-numbers c =
    let at = goal.at.is_sound-requires-clause-numbers c in
    subst (λ (f : ForgottenRuns). NumbersFollow f c.in-Some-2.runs) (sym (is_kept at.In-Some)) (its_runs at.In-Some-2 (is_kept at.In-Some)).0.numbers

pub is_sound-requires-clause-kept : goal.is_sound-requires-clause-kept
is_sound-requires-clause-kept c =
    let last = c.self.inside.last_lease in
    let runs = c.in-Some-2.runs in
    let items = c.in-Some-3.runners.items in
    subst (λ (rs : List RunnerState). KeptLeasesAreOfLegs last runs rs) (sym c.as_slice-2.ensures.value)
    (kept_of_legs last runs c.args.self.now.runners items (its_runners (goal.at.is_sound-requires-clause-kept c).In-Some-3).0)

pub is_sound-requires-clause-held : goal.is_sound-requires-clause-held
is_sound-requires-clause-held c =
    subst (λ (rs : List RunnerState). (n : ℕ) → Finds (lease_of_runner rs) n (get nat_cmp c.in_ok-held.held n))
    (c.as_slice.ensures.value ∙ sym c.as_slice-2.ensures.value) c.in_ok-held.ensures.found

pub returns-then-not-is_sound-clause-of : goal.returns-then-not-is_sound-clause-of
returns-then-not-is_sound-clause-of c =
    let at = goal.at.returns-then-not-is_sound-clause-of c in
    let last = c.self.inside.last_lease in
    let runs = c.in-Some-2.runs in
    let seen = c.as_slice-2.result.now in
    let its = subst (λ (rs : List RunnerState). AreRunnersAs last runs c.args.self.now.runners rs) (sym c.as_slice-2.ensures.value)
    (its_runners at.In-Some-3).0 in
    let fails : c.is_sound.result ≡ false = search rules in
    none_sound c.args.self.now last runs (ap (λ (s : TableParts). s.last_lease) c.self.view_is) (its_runs at.In-Some-2 (is_kept at.In-Some)).0 seen its
    (λ s. not_so c.is_sound.result c.is_sound.ensures.sound fails
    (subst (λ (f : ForgottenRuns). IsSound (record { last_lease = last; forgotten = f; runs = runs; runners = seen })) (sym (is_kept at.In-Some)) s))

pub returns-clause-of : goal.returns-clause-of
returns-clause-of c =
    let at = goal.at.returns-clause-of c in
    let last = c.self.inside.last_lease in
    let runs = c.in-Some-2.runs in
    let next = c.is_sound.new.runs in
    let items = c.in-Some-3.runners.items in
    let seen = c.as_slice-2.result.now in
    let kept = is_kept at.In-Some in
    let holds : c.is_sound.result ≡ true = search rules in
    stored_as c.args.self.now last runs next items seen c.of_sound.result
    (c.of_sound.ensures ∙ ap (λ (f : ForgottenRuns). record { last_lease = last; forgotten = f; runs = next; runners = items }) kept)
    c.is_sound.ensures.kept c.as_slice-2.ensures.value
    (subst (λ (f : ForgottenRuns). IsSound (record { last_lease = last; forgotten = f; runs = runs; runners = seen })) kept
    (c.is_sound.ensures.sound.0 holds))
    (ap (λ (s : TableParts). s.last_lease) c.self.view_is) (its_runs at.In-Some-2 (is_kept at.In-Some)).0 (its_runners at.In-Some-3).0

-- For each job that is not blocked, its needs have finished, and for each skipped job, its condition is false: how each change of the runs
-- preserves this.
use Rattle.std.specs.Prelude.{◌≡◌, ℕ, zero, suc, List, [], ◌∷◌, true, false, Option, Some, None}
use Rattle.std.specs.Prelude.{option_map, option_and_then, slice_get, refl}
use Rattle.std.specs.List.{slice_index_or}
use Rattle.std.specs.Option.{option_map_or}
use Rattle.std.proofs.Common.{ap, sym, ◌∙◌, subst}
use Rattle.std.proofs.lemmas.Option.{same_Some}
use Rattle.wf_value.specs.declared.condition.Condition.TheVariants as condition
use Rattle.wf_value.specs.declared.outcome.JobResult.{JobResult}
use Rattle.wf_value.specs.declared.outcome.JobResult.TheVariants as result
use Rattle.needs_graph.specs.Needs.{ancestors_of, condition_value, results_at}
use Rattle.run_plan.specs.declared.planned.PlannedJob.{PlannedJob}
use Rattle.table_model.specs.Runs.{changed_at, run_at, job_at, with_job, with_leg, LegState, JobState, RunState}
use Rattle.table_model.specs.declared.sites.LegSite.{LegSite}
use Rattle.table_model.specs.LegContext.{ancestor_results, condition_of, job_results, needs_graph_at, needs_have_finished, finished_result}
use Rattle.table_model.specs.declared.phases.JobPhase.{JobPhase}
use Rattle.table_model.specs.declared.phases.JobPhase.TheVariants as job
use Rattle.table_model.proofs.Changed.{holds_of_each}
use Rattle.table_model.proofs.JobKeeps.{JobIn, job_in, with_job_of}
use Rattle.table_model.proofs.NeedsSettled.{KeepsResults, graph_same, needs_stay_settled, result_in, result_of_job}
use Rattle.table_model.proofs.Optional.{from_and_then, some_of}
use Rattle.table_model.proofs.RunFits.{admitted_at, job_in_run, plan_at_same}
use Rattle.table_laws.proofs.AncestorsSettled.{NeedsBefore, ancestors_settled, results_stay}

-- what holds of a job once it is not blocked
abbrev pub JobDecided : List RunState → ℕ → ℕ → JobPhase → Type 0
JobDecided runs r j job.Blocked = Unit {0}
JobDecided runs r j job.Open = needs_have_finished runs r j ≡ true
JobDecided runs r j (job.Finished s) =
    (needs_have_finished runs r j ≡ true)
    × (s ≡ result.Skipped → condition_value (condition_of runs r j) (ancestor_results runs r j) false ≡ false)

abbrev pub Decided : List RunState → Type 0
Decided runs = (r j : ℕ) (y : JobState) → job_at runs r j ≡ Some y → JobDecided runs r j y.phase

-- ---- what was decided does not change

needs_of_settled : (runs : List RunState) (r j : ℕ) (phase : JobPhase) (a : JobResult) → finished_result phase ≡ Some a
    → JobDecided runs r j phase → needs_have_finished runs r j ≡ true
needs_of_settled runs r j job.Blocked a e d = cc
needs_of_settled runs r j job.Open a e d = d
needs_of_settled runs r j (job.Finished s) a e d = d.0

needs_before : (runs : List RunState) → Decided runs → (r : ℕ) → NeedsBefore (needs_graph_at runs r) (job_results runs r)
needs_before runs all r j h =
    let (a, is) = some_of (slice_index_or (job_results runs r) j None) h in
    let of_run = from_and_then (λ (run : RunState). result_in run j) (run_at runs r) a (sym (result_of_job runs r j) ∙ is) in
    let of_job = from_and_then (λ (y : JobState). finished_result y.phase) (slice_get of_run.value.jobs j) a of_run.gives in
    needs_of_settled runs r j of_job.value.phase a of_job.gives
    (all r j of_job.value (job_in_run runs r j of_run.value of_run.is ∙ of_job.is))

module _ (runs next : List RunState) (all : Decided runs) (r : ℕ) (same : admitted_at next r ≡ admitted_at runs r)
    (keeps : KeepsResults runs next r) where
  -- the results of a job's ancestors
  pub ancestors_stay : (j : ℕ) → needs_have_finished runs r j ≡ true → ancestor_results next r j ≡ ancestor_results runs r j
  ancestors_stay j needs =
      ap (λ graph. results_at (job_results next r) (ancestors_of graph j)) (graph_same runs next r same)
      ∙ results_stay (job_results runs r) (job_results next r)
      (λ k a e. result_of_job next r k ∙ keeps k a (sym (result_of_job runs r k) ∙ e)) (ancestors_of (needs_graph_at runs r) j)
      (ancestors_settled (needs_graph_at runs r) (job_results runs r) (needs_before runs all r) j needs)

  pub decided_stays : (j : ℕ) (phase : JobPhase) → JobDecided runs r j phase → JobDecided next r j phase
  decided_stays j job.Blocked d = tt
  decided_stays j job.Open d = needs_stay_settled runs next r j same keeps d
  decided_stays j (job.Finished s) d = (
    needs_stay_settled runs next r j same keeps d.0,
    (λ e. ap (λ o. condition_value (option_map_or (λ (planned : PlannedJob). planned.condition) o condition.Never)
        (ancestor_results next r j) false) (plan_at_same runs next r j same)
        ∙ ap (λ os. condition_value (condition_of runs r j) os false) (ancestors_stay j d.0) ∙ d.1 e),
  )

-- if each job of the new runs was decided by the old ones
pub all_decided : (runs next : List RunState) → Decided runs → ((r : ℕ) → admitted_at next r ≡ admitted_at runs r)
    → ((r : ℕ) → KeepsResults runs next r) → ((r j : ℕ) (y : JobState) → job_at next r j ≡ Some y → JobDecided runs r j y.phase)
    → Decided next
all_decided runs next all same keeps now r j y at = decided_stays runs next all r (same r) (keeps r) j y.phase (now r j y at)

-- ---- a change of one job

abbrev pub NowDecided : List RunState → List RunState → Type 0
NowDecided runs next = (r j : ℕ) (y : JobState) → job_at next r j ≡ Some y → JobDecided runs r j y.phase

pub one_decided : (runs : List RunState) (r j : ℕ) (f : JobState → JobState) (y : JobState) → job_at runs r j ≡ Some y
    → JobDecided runs r j (f y).phase → Decided runs → NowDecided runs (with_job r j f runs)
one_decided runs r j f y was now all s i z at =
    let old = job_in runs r j y was in
    let new = job_in (with_job r j f runs) s i z at in
    holds_of_each r (with_job_of j f) runs old.run
    (λ k x. (l : ℕ) (v : JobState) → slice_get x.jobs l ≡ Some v → JobDecided runs k l v.phase) old.run_is
    (holds_of_each j f old.run.jobs y (λ l v. JobDecided runs r l v.phase) old.job_is now
    (λ l v e. all r l v (job_in_run runs r l old.run old.run_is ∙ e)))
    (λ k x e l v d. all k l v (job_in_run runs k l x e ∙ d)) s new.run new.run_is i z new.job_is

-- ---- a change that keeps the phases of jobs

reads_alike : {X Y : Type 0} (i : ℕ) (f : X → X) (xs : List X) (g : X → Option Y) → ((x : X) → g (f x) ≡ g x) → (k : ℕ)
    → option_and_then g (slice_get (changed_at i f xs) k) ≡ option_and_then g (slice_get xs k)
reads_alike i f [] g same k = refl
reads_alike zero f (x ∷ xs) g same zero = same x
reads_alike zero f (x ∷ xs) g same (suc k) = refl
reads_alike (suc i) f (x ∷ xs) g same zero = refl
reads_alike (suc i) f (x ∷ xs) g same (suc k) = reads_alike i f xs g same k

maps_alike : {X Y : Type 0} (i : ℕ) (f : X → X) (xs : List X) (g : X → Y) → ((x : X) → g (f x) ≡ g x) → (k : ℕ)
    → option_map g (slice_get (changed_at i f xs) k) ≡ option_map g (slice_get xs k)
maps_alike i f [] g same k = refl
maps_alike zero f (x ∷ xs) g same zero = ap Some (same x)
maps_alike zero f (x ∷ xs) g same (suc k) = refl
maps_alike (suc i) f (x ∷ xs) g same zero = refl
maps_alike (suc i) f (x ∷ xs) g same (suc k) = maps_alike i f xs g same k

-- the phase of a job of a run
abbrev phase_in : RunState → ℕ → Option JobPhase
phase_in run j = option_and_then (λ y. Some y.phase) (slice_get run.jobs j)

abbrev pub PhasesSame : List RunState → List RunState → Type 0
PhasesSame runs next =
    (r j : ℕ) → option_and_then (λ run. phase_in run j) (run_at next r) ≡ option_and_then (λ run. phase_in run j) (run_at runs r)

result_of_phase : (o : Option JobState)
    → option_and_then (λ (y : JobState). finished_result y.phase) o
    ≡ option_and_then finished_result (option_and_then (λ (y : JobState). Some y.phase) o)
result_of_phase None = refl
result_of_phase (Some y) = refl

result_by_phase : (o : Option RunState) (j : ℕ)
    → option_and_then (λ (run : RunState). result_in run j) o
    ≡ option_and_then finished_result (option_and_then (λ (run : RunState). phase_in run j) o)
result_by_phase None j = refl
result_by_phase (Some run) j = result_of_phase (slice_get run.jobs j)

pub same_phases_decided : (runs next : List RunState) → ((r : ℕ) → admitted_at next r ≡ admitted_at runs r) → PhasesSame runs next
    → Decided runs → Decided next
same_phases_decided runs next same phases all =
    all_decided runs next all same
    (λ r j a e. result_by_phase (run_at next r) j ∙ ap (option_and_then finished_result) (phases r j)
    ∙ sym (result_by_phase (run_at runs r) j) ∙ e)
    (λ r j y at. as_before r j y (job_in next r j y at))
  where
    as_before : (r j : ℕ) (y : JobState) → JobIn next r j y → JobDecided runs r j y.phase
    as_before r j y new =
        let here : option_and_then (λ (run : RunState). phase_in run j) (run_at next r) ≡ Some y.phase =
        ap (option_and_then (λ (run : RunState). phase_in run j)) new.run_is
        ∙ ap (option_and_then (λ (v : JobState). Some v.phase)) new.job_is in
        let of_run = from_and_then (λ (run : RunState). phase_in run j) (run_at runs r) y.phase (sym (phases r j) ∙ here) in
        let of_job = from_and_then (λ (v : JobState). Some v.phase) (slice_get of_run.value.jobs j) y.phase of_run.gives in
        subst (JobDecided runs r j) (same_Some of_job.value.phase y.phase of_job.gives)
        (all r j of_job.value (job_in_run runs r j of_run.value of_run.is ∙ of_job.is))

-- a change of a job that keeps its phase
pub job_change_decided : (runs : List RunState) (r j : ℕ) (f : JobState → JobState) → ((y : JobState) → (f y).phase ≡ y.phase)
    → Decided runs → Decided (with_job r j f runs)
job_change_decided runs r j f same all =
    same_phases_decided runs (with_job r j f runs) (maps_alike r (with_job_of j f) runs (λ (x : RunState). x.admitted) (λ x. refl))
    (λ s i. reads_alike r (with_job_of j f) runs (λ (run : RunState). phase_in run i)
    (λ x. reads_alike j f x.jobs (λ (y : JobState). Some y.phase) (λ y. ap Some (same y)) i) s) all

pub leg_change_decided : (runs : List RunState) (p : LegSite) (f : LegState → LegState) → Decided runs → Decided (with_leg p f runs)
leg_change_decided runs p f all =
    job_change_decided runs p.run p.job (λ y. record y { legs = changed_at p.leg f y.legs }) (λ y. refl) all

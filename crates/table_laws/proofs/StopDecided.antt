-- The stop of a run preserves what was decided about jobs: once all jobs of a run have finished, so have their needs.
use Rattle.std.specs.Prelude.{◌≡◌, ℕ, zero, suc, ◌+◌, ◌<◌, ◌&&◌, List, [], ◌∷◌, map, filter, length, not, Bool, true, false}
use Rattle.std.specs.Prelude.{Option, Some, option_map, slice_get, if◌then◌else◌, refl}
use Rattle.std.specs.List.{enumerate_from, slice_index_or}
use Rattle.std.proofs.Common.{arith, ap, sym, ◌∙◌, subst}
use Rattle.std.proofs.lemmas.List.{length-map}
use Rattle.std.proofs.lemmas.Option.{slice_get-map}
use Rattle.std.proofs.lemmas.Bool.{and_from}
use Rattle.wf_value.specs.declared.outcome.JobResult.{JobResult}
use Rattle.wf_value.specs.declared.outcome.JobResult.TheVariants as result
use Rattle.needs_graph.specs.Needs.{needs_at, indexes, is_listed, needs_of}
use Rattle.definitions.specs.Rising.{JobNeeds}
use Rattle.run_plan.specs.PlanOf.{needs_listed, needs_of_planned, plan_of}
use Rattle.table_model.specs.Runs.{run_at, job_at, with_run, JobState, RunState}
use Rattle.table_model.specs.Settling.{is_open, finished_as}
use Rattle.table_model.specs.Stops.{cancelled, stopped_in, stopped_run, stopped_where, with_stop_requested, with_stopped_legs}
use Rattle.table_model.specs.inner.WithinRun.{may_run_in, needs_finished_in}
use Rattle.table_model.specs.LegContext.{all_have_results, needs_have_finished, results_so_far}
use Rattle.table_model.specs.declared.phases.JobPhase.{JobPhase}
use Rattle.table_model.specs.declared.phases.RunPhase.{RunPhase}
use Rattle.table_model.specs.declared.phases.RunPhase.TheVariants as run
use Rattle.table_model.proofs.Changed.{at_changed, holds_of_each}
use Rattle.table_model.proofs.JobKeeps.{job_in}
use Rattle.table_model.proofs.NeedsSettled.{needs_by_run}
use Rattle.table_model.proofs.Optional.{from_map}
use Rattle.table_model.proofs.RunFits.{RunsFit, job_in_run}
use Rattle.table_model.proofs.Settles.{admitted_stays}
use Rattle.table_model.proofs.StopKeeps.{get_placed, stopped_run_settles}
use Rattle.table_laws.proofs.AncestorsSettled.{has_result}
use Rattle.table_laws.proofs.Decided.{JobDecided, Decided, decided_stays}

-- ---- the needs of a plan are jobs of it

places_have : {X : Type 0} (test : X → Bool) (results : List (Option JobResult)) (xs : List X) (a : ℕ)
    → ((k : ℕ) → k < length xs → has_result results (a + k) ≡ true)
    → all_have_results results (map (λ e. e.0) (filter (λ e. test e.1) (enumerate_from a xs))) ≡ true
places_have test results [] a each = refl
places_have {X} test results (x ∷ xs) a each =
    let first : a ≡ a + 0 = omega arith in
    let rest = places_have test results xs (a + 1)
    (λ k below. let at : (a + 1) + k ≡ a + suc k = omega arith in ap (has_result results) at ∙ each (suc k) (omega arith)) in
    let later : List (ℕ × X) = filter (λ e. test e.1) (enumerate_from (a + 1) xs) in
    elim (test x) as (λ b. all_have_results results (map (λ e. e.0) (if b then (a, x) ∷ later else later)) ≡ true) [
      | true ↦ and_from (has_result results a) (all_have_results results (map (λ e. e.0) later))
          (ap (has_result results) first ∙ each zero (omega arith)) rest
      | false ↦ rest
    ]

each_have : (f : JobNeeds → List ℕ) (results : List (Option JobResult))
    → ((x : JobNeeds) → all_have_results results (f x) ≡ true) → (xs : List JobNeeds) (j : ℕ)
    → all_have_results results (slice_index_or (map f xs) j []) ≡ true
each_have f results each [] j = refl
each_have f results each (x ∷ xs) zero = each x
each_have f results each (x ∷ xs) (suc j) = each_have f results each xs j

needs_have : (jobs : List JobNeeds) (results : List (Option JobResult)) → ((k : ℕ) → k < length jobs → has_result results k ≡ true)
    → (j : ℕ) → all_have_results results (needs_at (needs_of jobs) j) ≡ true
needs_have jobs results each j =
    each_have (λ job. indexes (λ other. is_listed job.needs other.id) jobs) results
    (λ job. places_have (λ (other : JobNeeds). is_listed job.needs other.id) results jobs 0
    (λ k below. let at : 0 + k ≡ k = omega arith in ap (has_result results) at ∙ each k below)) jobs j

-- ---- a run that has not begun

settled_has : (jobs : List JobState) (k : ℕ) → k < length jobs
    → has_result (results_so_far (map (finished_as result.Cancelled) jobs)) k ≡ true
settled_has [] k below = absurd (omega arith)
settled_has (y ∷ ys) zero below = refl
settled_has (y ∷ ys) (suc k) below = settled_has ys k (omega arith)

cancelled_needs : (x : RunState) → length x.jobs ≡ length (plan_of x.admitted.body) → (j : ℕ) → needs_finished_in (cancelled x) j ≡ true
cancelled_needs x same j =
    let plan = plan_of x.admitted.body in
    let listed : length (needs_listed plan) ≡ length plan = length-map plan needs_of_planned in
    needs_have (needs_listed plan) (results_so_far (map (finished_as result.Cancelled) x.jobs))
    (λ k below. settled_has x.jobs k (omega (arith, below, listed, same))) j

-- ---- the runs after one of them is stopped

where_phase : (b : Bool) (y : JobState) → y.phase ≡ (stopped_where b y).phase
where_phase b y =
    elim (is_open y.phase && b) as (λ c. y.phase ≡ (if c then with_stopped_legs y else y).phase) [
      | true ↦ refl
      | false ↦ refl
    ]

module _ (runs : List RunState) (fit : RunsFit runs) (all : Decided runs) (r : ℕ) (x : RunState) (was : run_at runs r ≡ Some x) where
  still : (k l : ℕ) (y : JobState) → job_at runs k l ≡ Some y → JobDecided (with_run r stopped_run runs) k l y.phase
  still k l y at =
      let stay = (stopped_run_settles runs fit r x was).stay in
      decided_stays runs (with_run r stopped_run runs) all k (admitted_stays runs (with_run r stopped_run runs) stay k) (stay.keeps_results k) l y.phase (all k l y at)

  cancelled_at : x.phase ≡ run.Waiting → run_at (with_run r stopped_run runs) r ≡ Some (cancelled x)
  cancelled_at is = at_changed r stopped_run runs ∙ ap (option_map stopped_run) was ∙ ap (λ p. Some (stopped_in p x)) is

  now : (phase : RunPhase) → x.phase ≡ phase → (l : ℕ) (y : JobState) → slice_get (stopped_in phase x).jobs l ≡ Some y
      → JobDecided (with_run r stopped_run runs) r l y.phase
  now run.Waiting is l y e =
      let next = with_run r stopped_run runs in
      let f = finished_as result.Cancelled in
      let from = from_map f (slice_get x.jobs l) y (sym (slice_get-map f x.jobs l) ∙ e) in
      let needs : needs_have_finished next r l ≡ true =
      needs_by_run next r l (cancelled x) (cancelled_at is) ∙ cancelled_needs x (fit r x was).has_its_jobs l in
      subst (λ (v : JobState). JobDecided next r l v.phase) from.gives (needs, (λ e. cc))
  now run.Live is l y e =
      let next = with_run r stopped_run runs in
      elim (x.stopping) as (λ b. slice_get (if b then x else with_stop_requested x).jobs l ≡ Some y → JobDecided next r l y.phase) [
        | true ↦ λ at. still r l y (job_in_run runs r l x was ∙ at)
        | false ↦ λ at.
            let told = record x { stopping = true } in
            let f : ℕ × JobState → JobState = λ j. stopped_where (not (may_run_in told j.0)) j.1 in
            let from = from_map (λ z. f (l, z)) (slice_get x.jobs l) y (sym (get_placed f x.jobs l) ∙ at) in
            subst (λ (phase : JobPhase). JobDecided next r l phase)
            (where_phase (not (may_run_in told l)) from.value ∙ ap (λ (v : JobState). v.phase) from.gives)
            (still r l from.value (job_in_run runs r l x was ∙ from.is))
      ] e
  now run.Ended is l y e = still r l y (job_in_run runs r l x was ∙ e)

  pub stopped_decided : Decided (with_run r stopped_run runs)
  stopped_decided s j y at =
      let next = with_run r stopped_run runs in
      let new = job_in next s j y at in
      holds_of_each r stopped_run runs x
      (λ k v. (l : ℕ) (z : JobState) → slice_get v.jobs l ≡ Some z → JobDecided next k l z.phase) was (now x.phase refl)
      (λ k v e l z d. still k l z (job_in_run runs k l v e ∙ d)) s new.run new.run_is j y new.job_is

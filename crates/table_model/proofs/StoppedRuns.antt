-- How the stop of a run changes its jobs, one after another.
use Rattle.std.specs.Prelude.{◌≡◌, ℕ, zero, suc, ◌+◌, ◌≤◌, ◌&&◌, List, [], ◌∷◌, map, length, not, Bool, true, false, Some}
use Rattle.std.specs.Prelude.{slice_get, if◌then◌else◌, refl}
use Rattle.std.specs.List.{enumerate_from}
use Rattle.std.specs.Option.{option_map_or}
use Rattle.std.proofs.Common.{arith, ap, sym, ◌∙◌}
use Rattle.wf_value.specs.declared.outcome.JobResult.{JobResult}
use Rattle.needs_graph.specs.Needs.{condition_value, ancestor_results as results_of_ancestors}
use Rattle.table_model.specs.Runs.{changed_at, needs_in, finished_result, JobState, RunState}
use Rattle.table_model.specs.Settling.{is_open, finished_as}
use Rattle.table_model.specs.Stops.{is_open_at, stopped_in, stopped_run, stopped_where, with_stop_requested, with_job_stopped, with_jobs_stopped}
use Rattle.table_model.specs.Stops.{with_stopped_legs}
use Rattle.table_model.specs.inner.WithinRun.{condition_in, may_run_in}
use Rattle.table_model.specs.declared.phases.RunPhase.TheVariants as run
use Rattle.table_model.proofs.StopKeeps.{where_result}
use Rattle.table_model.proofs.Transitions.{changed_none, changed_same}

-- ---- the elements before an index are changed

abbrev pub upto : {X : Type 0} → (ℕ × X → X) → ℕ → ℕ → List X → List X
upto f n zero xs = xs
upto f n (suc k) [] = []
upto f n (suc k) (x ∷ xs) = f (n, x) ∷ upto f (n + 1) k xs

pub upto_more : {X : Type 0} (f : ℕ × X → X) (n k : ℕ) (xs : List X)
    → changed_at k (λ x. f (n + k, x)) (upto f n k xs) ≡ upto f n (suc k) xs
upto_more f n zero [] = refl
upto_more f n zero (x ∷ xs) = let at : n + 0 ≡ n = omega arith in ap (λ m. f (m, x) ∷ xs) at
upto_more f n (suc k) [] = refl
upto_more f n (suc k) (x ∷ xs) =
    let at : n + suc k ≡ (n + 1) + k = omega arith in
    ap (λ m. f (n, x) ∷ changed_at k (λ y. f (m, y)) (upto f (n + 1) k xs)) at ∙ ap (λ ys. f (n, x) ∷ ys) (upto_more f (n + 1) k xs)

pub upto_all : {X : Type 0} (f : ℕ × X → X) (n k : ℕ) (xs : List X) → length xs ≤ k → upto f n k xs ≡ map f (enumerate_from n xs)
upto_all f n zero [] past = refl
upto_all f n (suc k) [] past = refl
upto_all f n zero (x ∷ xs) past = absurd (omega arith)
upto_all f n (suc k) (x ∷ xs) past = ap (λ ys. f (n, x) ∷ ys) (upto_all f (n + 1) k xs (omega arith))

upto_same : {X Y : Type 0} (f : ℕ × X → X) (h : X → Y) → ((k : ℕ) (x : X) → h (f (k, x)) ≡ h x) → (n k : ℕ) (xs : List X)
    → map h (upto f n k xs) ≡ map h xs
upto_same f h same n zero xs = refl
upto_same f h same n (suc k) [] = refl
upto_same f h same n (suc k) (x ∷ xs) =
    ap (λ y. y ∷ map h (upto f (n + 1) k xs)) (same n x) ∙ ap (λ ys. h x ∷ ys) (upto_same f h same (n + 1) k xs)

-- ---- the jobs of a run that is asked to stop

abbrev pub job_stopped : RunState → ℕ × JobState → JobState
job_stopped leg_facts j = stopped_where (not (may_run_in leg_facts j.0)) j.1

abbrev pub leg_facts_upto : ℕ → RunState → RunState
leg_facts_upto n leg_facts = record leg_facts { jobs = upto (job_stopped leg_facts) 0 n leg_facts.jobs }

-- a stop changes no job's result, and so no condition
same_condition : (leg_facts : RunState) (n j : ℕ) → may_run_in (leg_facts_upto n leg_facts) j ≡ may_run_in leg_facts j
same_condition leg_facts n j =
    ap (λ rs. condition_value (condition_in leg_facts j) (results_of_ancestors (needs_in leg_facts) rs j) leg_facts.stopping)
    (upto_same (job_stopped leg_facts) (λ y. finished_result y.phase) (λ k y. where_result (not (may_run_in leg_facts k)) y) 0 n leg_facts.jobs)

pub next_job_stopped : (leg_facts : RunState) (n : ℕ) → with_job_stopped n (leg_facts_upto n leg_facts) ≡ leg_facts_upto (n + 1) leg_facts
next_job_stopped leg_facts n =
    let jobs = upto (job_stopped leg_facts) 0 n leg_facts.jobs in
    let at : n ≡ 0 + n = omega arith in
    let next : suc n ≡ n + 1 = omega arith in
    ap (λ b. record leg_facts { jobs = changed_at n (stopped_where (not b)) jobs }) (same_condition leg_facts n n)
    ∙ ap (λ m. record leg_facts { jobs = changed_at n (λ y. job_stopped leg_facts (m, y)) jobs }) at
    ∙ ap (λ js. record leg_facts { jobs = js }) (upto_more (job_stopped leg_facts) 0 n leg_facts.jobs)
    ∙ ap (λ m. leg_facts_upto m leg_facts) next

pub all_jobs_stopped : (leg_facts : RunState) (n : ℕ) → length leg_facts.jobs ≤ n → leg_facts_upto n leg_facts ≡ with_jobs_stopped leg_facts
all_jobs_stopped leg_facts n past = ap (λ js. record leg_facts { jobs = js }) (upto_all (job_stopped leg_facts) 0 n leg_facts.jobs past)

-- ---- the jobs of a run finish with the same result

abbrev pub settled_upto : JobResult → ℕ → RunState → RunState
settled_upto result n run = record run { jobs = upto (λ j. finished_as result j.1) 0 n run.jobs }

pub next_settled : (result : JobResult) (run : RunState) (n : ℕ)
    → record run { jobs = changed_at n (finished_as result) (upto (λ j. finished_as result j.1) 0 n run.jobs) }
    ≡ settled_upto result (n + 1) run
next_settled result run n =
    let next : suc n ≡ n + 1 = omega arith in
    ap (λ js. record run { jobs = js }) (upto_more (λ j. finished_as result j.1) 0 n run.jobs) ∙ ap (λ m. settled_upto result m run) next

without_places : {X : Type 0} (f : X → X) (n : ℕ) (xs : List X) → map (λ e. f e.1) (enumerate_from n xs) ≡ map f xs
without_places f n [] = refl
without_places f n (x ∷ xs) = ap (λ ys. f x ∷ ys) (without_places f (n + 1) xs)

pub all_settled : (result : JobResult) (run : RunState) (n : ℕ) → length run.jobs ≤ n
    → settled_upto result n run ≡ record run { jobs = map (finished_as result) run.jobs }
all_settled result run n past =
    ap (λ js. record run { jobs = js })
    (upto_all (λ j. finished_as result j.1) 0 n run.jobs past ∙ without_places (finished_as result) 0 run.jobs)

-- ---- one job of the run

abbrev pub is_to_stop : RunState → ℕ → Bool
is_to_stop run j = is_open_at run j && not (may_run_in run j)

-- the test of the job at an index is the test of the job found there
requested_there : (x : RunState) (j : ℕ) (y : JobState) → slice_get x.jobs j ≡ Some y
    → is_to_stop x j ≡ (is_open y.phase && not (may_run_in x j))
requested_there x j y at =
    ap (λ o. option_map_or (λ (job : JobState). is_open job.phase) o false && not (may_run_in x j)) at

-- if the job at the index has to stop, stopping its legs is the change
pub job_that_stops : (x : RunState) (j : ℕ) → is_to_stop x j ≡ true
    → record x { jobs = changed_at j with_stopped_legs x.jobs } ≡ with_job_stopped j x
job_that_stops x j is =
    ap (λ js. record x { jobs = js })
    (changed_same x.jobs j with_stopped_legs (stopped_where (not (may_run_in x j)))
    (λ y at. ap (λ c. if c then with_stopped_legs y else y) (sym is ∙ requested_there x j y at)))

-- otherwise nothing changes
pub job_that_stays : (x : RunState) (j : ℕ) → is_to_stop x j ≡ false → x ≡ with_job_stopped j x
job_that_stays x j is =
    ap (λ js. record x { jobs = js })
    (changed_none x.jobs j (stopped_where (not (may_run_in x j)))
    (λ y at. ap (λ c. if c then with_stopped_legs y else y) (sym (requested_there x j y at) ∙ is)))

-- ---- the event and the attempt do not change

pub stopped_admitted : (x : RunState) → (stopped_run x).admitted ≡ x.admitted
stopped_admitted x =
    elim (x.phase) as (λ phase. (stopped_in phase x).admitted ≡ x.admitted) [
      | run.Waiting ↦ refl
      | run.Live ↦ elim (x.stopping) as (λ b. (if b then x else with_stop_requested x).admitted ≡ x.admitted) [
        | true ↦ refl
        | false ↦ refl
      ]
      | run.Ended ↦ refl
    ]

-- Whether the needs of a job have finished and whether its condition holds, by its run alone. Needs stay finished, since a finished job
-- keeps its result.
use Rattle.std.specs.Prelude.{◌≡◌, ℕ, zero, suc, ◌<◌, List, [], ◌∷◌, map, length, Bool, true, is_some, Option, Some, None}
use Rattle.std.specs.Prelude.{option_map, option_and_then, slice_get, refl}
use Rattle.std.specs.List.{slice_index_or}
use Rattle.std.specs.Option.{option_map_or}
use Rattle.std.proofs.Common.{ap, sym, ◌∙◌, get_or}
use Rattle.std.proofs.lemmas.Bool.{and_from, and_parts}
use Rattle.std.proofs.lemmas.Option.{slice_get-get_or}
use Rattle.wf_value.specs.declared.condition.Condition.{Condition}
use Rattle.wf_value.specs.declared.outcome.JobResult.{JobResult}
use Rattle.needs_graph.specs.Needs.{needs_at, condition_value, ancestor_results as results_of_ancestors}
use Rattle.definitions.specs.SmallText.{Admitted}
use Rattle.run_plan.specs.PlanOf.{plan_of, plan_graph}
use Rattle.table_model.specs.inner.Cells.{JobCells, result_of, states}
use Rattle.table_model.specs.Runs.{run_at, JobState, RunState}
use Rattle.table_model.specs.inner.WithinRun.{condition_in, may_run_in, needs_finished_in}
use Rattle.table_model.specs.LegContext.{all_have_results, job_results, needs_graph_at, needs_have_finished, needs_in, results_so_far}
use Rattle.table_model.specs.LegContext.{finished_result}

-- ---- by the run alone

pub needs_by_run : (runs : List RunState) (r j : ℕ) (run : RunState) → run_at runs r ≡ Some run
    → needs_have_finished runs r j ≡ needs_finished_in run j
needs_by_run runs r j run at =
    ap (λ o. all_have_results (option_map_or (λ x. results_so_far x.jobs) o []) (needs_at (option_map_or needs_in o []) j)) at

-- the results of jobs with their rooms
results_of_cells : (cells : List JobCells) → map result_of cells ≡ results_so_far (states cells)
results_of_cells [] = refl
results_of_cells (x ∷ xs) = ap (λ os. finished_result x.state.phase ∷ os) (results_of_cells xs)

-- the condition's value from the data that a run holds
pub decided_in : (run : RunState) (j : ℕ) (requested : Condition) (graph : List (List ℕ)) (cells : List JobCells) (stopping : Bool)
    → requested ≡ condition_in run j → graph ≡ needs_in run → states cells ≡ run.jobs → stopping ≡ run.stopping
    → condition_value requested (results_of_ancestors graph (map result_of cells) j) stopping ≡ may_run_in run j
decided_in run j requested graph cells stopping is_requested is_graph is_jobs is_stopping =
    ap (λ c. condition_value c (results_of_ancestors graph (map result_of cells) j) stopping) is_requested
    ∙ ap (λ g. condition_value (condition_in run j) (results_of_ancestors g (map result_of cells) j) stopping) is_graph
    ∙ ap (λ rs. condition_value (condition_in run j) (results_of_ancestors (needs_in run) rs j) stopping)
    (results_of_cells cells ∙ ap results_so_far is_jobs)
    ∙ ap (λ s. condition_value (condition_in run j) (results_of_ancestors (needs_in run) (results_so_far run.jobs) j) s) is_stopping

-- ---- the results so far, job by job

-- the result so far of a job of a run
abbrev pub result_in : RunState → ℕ → Option JobResult
result_in run j = option_and_then (λ y. finished_result y.phase) (slice_get run.jobs j)

abbrev pub result_so_far : List RunState → ℕ → ℕ → Option JobResult
result_so_far runs r j = option_and_then (λ run. result_in run j) (run_at runs r)

pub result_among : (jobs : List JobState) (j : ℕ)
    → slice_index_or (results_so_far jobs) j None ≡ option_and_then (λ (y : JobState). finished_result y.phase) (slice_get jobs j)
result_among [] j = refl
result_among (y ∷ ys) zero = refl
result_among (y ∷ ys) (suc j) = result_among ys j

abbrev results_where : Option RunState → List (Option JobResult)
results_where o = option_map_or (λ (run : RunState). results_so_far run.jobs) o []

among_where : (o : Option RunState) (j : ℕ)
    → slice_index_or (results_where o) j None ≡ option_and_then (λ (run : RunState). result_in run j) o
among_where None j = refl
among_where (Some run) j = result_among run.jobs j

pub result_of_job : (runs : List RunState) (r j : ℕ) → slice_index_or (job_results runs r) j None ≡ result_so_far runs r j
result_of_job runs r j = among_where (run_at runs r) j

result_there : (jobs : List JobCells) (j : ℕ) (cells : JobCells) → slice_get jobs j ≡ Some cells
    → slice_index_or (results_so_far (states jobs)) j None ≡ finished_result cells.state.phase
result_there [] j cells at = cc
result_there (x ∷ xs) zero cells at = let same : x ≡ cells = cc in ap (λ v. finished_result v.state.phase) same
result_there (x ∷ xs) (suc j) cells at = result_there xs j cells at

pub result_read : (jobs : List JobCells) (j : ℕ) (cells : JobCells) → j < length jobs → cells ≡ get_or jobs j cells
    → slice_index_or (results_so_far (states jobs)) j None ≡ finished_result cells.state.phase
result_read jobs j cells within is = result_there jobs j cells (slice_get-get_or jobs j cells within ∙ ap Some (sym is))

-- ---- a finished job keeps its result

abbrev pub KeepsResults : List RunState → List RunState → ℕ → Type 0
KeepsResults runs next r = (j : ℕ) (a : JobResult) → result_so_far runs r j ≡ Some a → result_so_far next r j ≡ Some a

still_some : (o next : Option JobResult) → ((a : JobResult) → o ≡ Some a → next ≡ Some a) → is_some o ≡ true → is_some next ≡ true
still_some None next keeps h = cc
still_some (Some a) next keeps h = ap is_some (keeps a refl)

all_still : (results next : List (Option JobResult))
    → ((j : ℕ) (a : JobResult) → slice_index_or results j None ≡ Some a → slice_index_or next j None ≡ Some a) → (indexes : List ℕ)
    → all_have_results results indexes ≡ true → all_have_results next indexes ≡ true
all_still results next keeps [] h = refl
all_still results next keeps (p ∷ ps) h =
    let both = and_parts (is_some (slice_index_or results p None)) (all_have_results results ps) h in
    and_from (is_some (slice_index_or next p None)) (all_have_results next ps)
    (still_some (slice_index_or results p None) (slice_index_or next p None) (keeps p) both.0) (all_still results next keeps ps both.1)

abbrev needs_of_admitted : Option Admitted → List (List ℕ)
needs_of_admitted o = option_map_or (λ (event : Admitted). plan_graph (plan_of event.body)) o []

graph_by_admitted : (o : Option RunState)
    → option_map_or needs_in o [] ≡ needs_of_admitted (option_map (λ (run : RunState). run.admitted) o)
graph_by_admitted None = refl
graph_by_admitted (Some run) = refl

-- the plan's graph depends only on what was admitted
pub graph_same : (runs next : List RunState) (r : ℕ)
    → option_map (λ (run : RunState). run.admitted) (run_at next r) ≡ option_map (λ (run : RunState). run.admitted) (run_at runs r)
    → needs_graph_at next r ≡ needs_graph_at runs r
graph_same runs next r same =
    graph_by_admitted (run_at next r) ∙ ap needs_of_admitted same ∙ sym (graph_by_admitted (run_at runs r))

-- so needs that have finished stay finished
pub needs_stay_settled : (runs next : List RunState) (r j : ℕ)
    → option_map (λ (run : RunState). run.admitted) (run_at next r) ≡ option_map (λ (run : RunState). run.admitted) (run_at runs r)
    → KeepsResults runs next r → needs_have_finished runs r j ≡ true → needs_have_finished next r j ≡ true
needs_stay_settled runs next r j same keeps settled =
    all_still (job_results runs r) (job_results next r)
    (λ k a e. result_of_job next r k ∙ keeps k a (sym (result_of_job runs r k) ∙ e)) (needs_at (needs_graph_at next r) j)
    (ap (λ graph. all_have_results (job_results runs r) (needs_at graph j)) (graph_same runs next r same) ∙ settled)

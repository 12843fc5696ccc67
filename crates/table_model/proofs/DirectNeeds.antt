-- The result of a job that is needed directly, found by its id.
use Rattle.std.specs.Prelude.{◌≡◌, ℕ, List, [], ◌∷◌, filter_map, find, true, false, Option, Some, None, option_map, option_and_then}
use Rattle.std.specs.Prelude.{slice_get, if◌then◌else◌, refl}
use Rattle.std.proofs.Common.{ap, sym, ◌∙◌}
use Rattle.std.specs.List.{cons_option, slice_index_or}
use Rattle.std.specs.Option.{option_map_or}
use Rattle.std.specs.Str.{bytes_eq}
use Rattle.wf_value.specs.declared.outcome.JobResult.{JobResult}
use Rattle.run_plan.specs.declared.planned.PlannedJob.{PlannedJob}
use Rattle.needs_graph.specs.Needs.{needs_at}
use Rattle.run_plan.specs.PlanOf.{plan_of}
use Rattle.table_model.specs.Runs.{direct_needs, has_id, needs_in, results_so_far, with_result, JobState, RunState}
use Rattle.table_model.specs.LegContext.{under}

one_need : (id : List ℕ) (results : List (Option JobResult)) (k : ℕ) (o : Option PlannedJob) (more : List (List ℕ × Option JobResult))
    (found : Option ℕ)
    → option_and_then (λ r. r) (under id more) ≡ option_and_then (λ index. slice_index_or results index None) found
    → option_and_then (λ r. r) (under id (cons_option (option_map (λ planned. (planned.id, slice_index_or results k None)) o) more))
    ≡ option_and_then (λ index. slice_index_or results index None)
    (if option_map_or (λ planned. bytes_eq planned.id id) o false then Some k else found)
one_need id results k None more found rest = rest
one_need id results k (Some planned) more found rest =
    elim (bytes_eq planned.id id) as
    (λ b. option_and_then (λ r. r) (option_map (λ (p : List ℕ × Option JobResult). p.1)
    (if b then Some (planned.id, slice_index_or results k None) else find (λ p. bytes_eq p.0 id) more))
    ≡ option_and_then (λ index. slice_index_or results index None) (if b then Some k else found)) [
      | true ↦ refl
      | false ↦ rest
    ]

result_by_id : (id : List ℕ) (plan : List PlannedJob) (results : List (Option JobResult)) (indexes : List ℕ)
    → option_and_then (λ r. r) (under id (filter_map (with_result plan results) indexes))
    ≡ option_and_then (λ index. slice_index_or results index None) (find (has_id plan id) indexes)
unfolding has_id
result_by_id id plan results [] = refl
result_by_id id plan results (k ∷ indexes) =
    one_need id results k (slice_get plan k) (filter_map (with_result plan results) indexes) (find (has_id plan id) indexes)
    (result_by_id id plan results indexes)

-- the result found by id among the direct needs of a job
pub need_found : (run : RunState) (j : ℕ) (id : List ℕ) (plan : List PlannedJob) (indexes : List ℕ) (jobs : List JobState) (found : Option ℕ)
    (result : Option JobResult) → plan ≡ plan_of run.admitted.body → indexes ≡ needs_at (needs_in run) j → jobs ≡ run.jobs
    → found ≡ find (has_id plan id) indexes → result ≡ option_and_then (λ index. slice_index_or (results_so_far jobs) index None) found
    → result ≡ option_and_then (λ r. r) (under id (direct_needs run j))
unfolding direct_needs
need_found run j id plan indexes jobs found result is_plan are_places are_jobs is_found is =
    is
    ∙ ap (λ ys. option_and_then (λ index. slice_index_or (results_so_far ys) index None) found) are_jobs
    ∙ ap (option_and_then (λ index. slice_index_or (results_so_far run.jobs) index None)) is_found
    ∙ sym (result_by_id id plan (results_so_far run.jobs) indexes)
    ∙ ap (λ ps. option_and_then (λ r. r) (under id (filter_map (with_result ps (results_so_far run.jobs)) indexes))) is_plan
    ∙ ap (λ ps. option_and_then (λ r. r) (under id (filter_map (with_result (plan_of run.admitted.body) (results_so_far run.jobs)) ps)))
    are_places

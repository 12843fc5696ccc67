-- The needs of each job as a row of flags.
use Rattle.std.specs.Prelude.{◌≡◌, ℕ, List, [], Bool, length, Result, Ok, Err, filter, map, if◌then◌else◌}
use Rattle.std.specs.List.{list_all, enumerate_from, range_with_len, slice_index_or}
use Rattle.wf_value.specs.declared.refusal.Refusal.{Refusal}
use Rattle.needs_graph.specs.inner.JobSets.{is_in}
use Rattle.definitions.specs.Rising.{JobNeeds}
use Rattle.needs_graph.specs.inner.JobBitmap.{is_marked}
use Rattle.needs_graph.specs.Needs.{indexes, is_listed, is_job, unknown_need}

-- for each job, whether it is listed
abbrev pub needs_row : List JobNeeds → List (List ℕ) → List Bool
needs_row jobs ids = map (λ other. is_listed ids other.id) jobs

abbrev pub needs_row_of : List JobNeeds → List (List ℕ) → Result (List Bool) Refusal
needs_row_of jobs ids = if list_all (is_job jobs) ids then Ok (needs_row jobs ids) else Err unknown_need

-- the same for the ids that each job lists
abbrev pub needs_rows : List JobNeeds → List (List Bool)
needs_rows jobs = map (λ job. needs_row jobs job.needs) jobs

abbrev pub needs_rows_of : List JobNeeds → Result (List (List Bool)) Refusal
needs_rows_of jobs =
    if list_all (λ job. list_all (is_job jobs) job.needs) jobs then Ok (needs_rows jobs) else Err unknown_need

-- the ids of the jobs that reach themselves, in order
abbrev pub own_ids : List JobNeeds → List (List Bool) → List (List ℕ)
own_ids jobs rows = map (λ e. e.1.id) (filter (λ e. is_marked (slice_index_or rows e.0 []) e.0) (enumerate_from 0 jobs))

-- for each job, the jobs whose rows contain it, in order
abbrev pub dependents_by : List (List Bool) → List (List ℕ)
dependents_by rows = map (λ job. indexes (λ row. is_marked row job) rows) (range_with_len 0 (length rows))

-- one set per row, with the same jobs
pub record IsSets (sets : List (List ℕ)) (rows : List (List Bool)) : Type 0 where
  pub count : length sets ≡ length rows
  pub same : (job other : ℕ) → is_in (slice_index_or sets job []) other ≡ is_marked (slice_index_or rows job []) other

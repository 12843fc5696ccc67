-- The needs of a workflow's jobs: the graph, what its jobs' results are, and when a condition holds.
use Rattle.std.specs.Prelude.{◌≡◌, ◌<◌, ℕ, zero, suc, List, [], ◌∷◌, Bool, false, length, filter, nat_eq, map, if◌then◌else◌, ◌==◌, Result}
use Rattle.std.specs.Prelude.{Ok, Err, true, ◌&&◌, not, Option, Some, None}
use Rattle.std.specs.List.{Contains, slice_index_or, flat_map, list_any, range_with_len, enumerate_from, list_all}
use Rattle.needs_graph.specs.inner.JobSets.{is_in}
use Rattle.std.specs.Str.{bytes_eq}
use Rattle.definitions.specs.Rising.{rises_by, JobNeeds}
use Rattle.wf_value.specs.declared.code.Code.TheVariants.{UnknownNeed}
use Rattle.wf_value.specs.declared.refusal.Refusal.{Refusal}
use Rattle.wf_value.specs.declared.refusal.Refusal.TheVariants.{Numbered, Cycle}
use Rattle.wf_value.specs.declared.outcome.Outcome.{Outcome}
use Rattle.wf_value.specs.declared.outcome.Outcome.TheVariants as outcome
use Rattle.wf_value.specs.declared.outcome.JobResult.{JobResult}
use Rattle.wf_value.specs.declared.outcome.JobResult.TheVariants as job_result
use Rattle.needs_graph.specs.declared.ended.LegEnd.{LegEnd}
use Rattle.wf_value.specs.declared.condition.Condition.{Condition}
use Rattle.wf_value.specs.declared.condition.Condition.TheVariants.{Success, Failure, Always, Cancelled, NotCancelled, Never}
use Rattle.needs_graph.specs.declared.conditions.AncestorTest.{AncestorTest}
use Rattle.needs_graph.specs.declared.conditions.AncestorTest.TheVariants.{Nothing, AllSucceeded, AnyFailed}

-- ---- the ancestors of a job. Jobs are identified by their indices, from 0; `needs` has, for each job, the indices of the jobs that it
-- needs. GitHub Docs, "Workflow syntax for GitHub Actions": `jobs.<job_id>.needs`.

abbrev pub needs_at : List (List ℕ) → ℕ → List ℕ
needs_at needs job = slice_index_or needs job []

-- a walk along needs from one job to another, through the jobs in between
abbrev pub IsWalk : List (List ℕ) → ℕ → List ℕ → ℕ → Type 0
IsWalk needs from [] to = Contains (needs_at needs from) to
IsWalk needs from (next ∷ between) to = Contains (needs_at needs from) next × IsWalk needs next between to

abbrev pub HasWalk : List (List ℕ) → ℕ → ℕ → Type 0
HasWalk needs from to = (between : List ℕ) × IsWalk needs from between to

-- the ends of the walks with this number of jobs in between
abbrev pub walk_ends : List (List ℕ) → ℕ → ℕ → List ℕ
walk_ends needs zero job = needs_at needs job
walk_ends needs (suc n) job = flat_map (walk_ends needs n) (needs_at needs job)

-- whether a walk leads from the job to the other; if there is one, there is one with fewer jobs in between than there are jobs
abbrev pub is_ancestor : List (List ℕ) → ℕ → ℕ → Bool
is_ancestor needs job other =
    list_any (λ n. list_any (nat_eq other) (walk_ends needs n job)) (range_with_len 0 (length needs))

-- the ancestors of a job, in order
abbrev pub ancestors_of : List (List ℕ) → ℕ → List ℕ
ancestors_of needs job = filter (is_ancestor needs job) (range_with_len 0 (length needs))

-- the jobs that need a job directly, in order
abbrev pub dependents_of : List (List ℕ) → ℕ → List ℕ
dependents_of needs job = filter (λ other. list_any (nat_eq job) (needs_at needs other)) (range_with_len 0 (length needs))

-- each job needs only jobs of the list
abbrev pub IsClosed : List (List ℕ) → Type 0
IsClosed needs = (job other : ℕ) → Contains (needs_at needs job) other → other < length needs

-- an acyclic graph, with the set of each job's ancestors and the list of its dependents
pub record IsGraph (needs ancestors dependents : List (List ℕ)) : Type 0 where
  pub within : IsClosed needs
  pub acyclic : (job : ℕ) → is_ancestor needs job job ≡ false
  pub reached : (job other : ℕ) → is_in (slice_index_or ancestors job []) other ≡ is_ancestor needs job other
  pub as_many : length dependents ≡ length needs
  pub needed : (job : ℕ) → job < length needs → slice_index_or dependents job [] ≡ dependents_of needs job

-- ---- the needs of a workflow's jobs, and when they form no graph. GitHub Docs, "Workflow syntax for GitHub Actions":
-- `jobs.<job_id>.needs`.

-- the indices, from 0, of the elements that pass the test
abbrev pub indexes : {X : Type 0} → (X → Bool) → List X → List ℕ
indexes test xs = map (λ e. e.0) (filter (λ e. test e.1) (enumerate_from 0 xs))

-- whether the ids strictly increase in byte order
abbrev pub ids_rise : List JobNeeds → Bool
ids_rise jobs = rises_by (λ job. job.id) jobs

abbrev pub is_listed : List (List ℕ) → List ℕ → Bool
is_listed ids id = list_any (bytes_eq id) ids

-- whether a job has this id
abbrev pub is_job : List JobNeeds → List ℕ → Bool
is_job jobs id = list_any (λ job. bytes_eq id job.id) jobs

-- for each job, the indices of the jobs whose ids it lists
abbrev pub needs_of : List JobNeeds → List (List ℕ)
needs_of jobs = map (λ job. indexes (λ other. is_listed job.needs other.id) jobs) jobs

-- the ids of the jobs that are their own ancestors, in order
abbrev pub own_ancestors : List JobNeeds → List (List ℕ)
own_ancestors jobs =
    map (λ e. e.1.id) (filter (λ e. is_ancestor (needs_of jobs) e.0 e.0) (enumerate_from 0 jobs))

abbrev pub unknown_need : Refusal
unknown_need = Numbered UnknownNeed

abbrev pub unless_cycle : List (List ℕ) → List (List ℕ) → Result (List (List ℕ)) Refusal
unless_cycle [] needs = Ok needs
unless_cycle (id ∷ ids) needs = Err (Cycle (id ∷ ids))

-- whether no job lists a need
abbrev pub list_nothing : List JobNeeds → Bool
list_nothing jobs = list_all (λ job. length job.needs == 0) jobs

-- the graph of the jobs' needs, or its refusal; 13 comes before 14
abbrev pub graph_of : List JobNeeds → Result (List (List ℕ)) Refusal
graph_of jobs =
    if list_all (λ job. list_all (is_job jobs) job.needs) jobs
    then unless_cycle (own_ancestors jobs) (needs_of jobs)
    else Err unknown_need

-- ---- the result of a job from its legs, and the conclusion of a run from its jobs.
-- GitHub Docs, "Workflow syntax for GitHub Actions": `jobs.<job_id>.continue-on-error`; "Contexts": `needs.<job_id>.result`.

abbrev pub is_failure : Outcome → Bool
is_failure outcome.Failure = true
is_failure _ = false

abbrev pub is_cancelled : Outcome → Bool
is_cancelled outcome.Cancelled = true
is_cancelled _ = false

-- the leg failed and its failure is not ignored
abbrev pub fails_job : LegEnd → Bool
fails_job leg = is_failure leg.outcome && not leg.continue_on_error

abbrev pub was_cancelled : LegEnd → Bool
was_cancelled leg = is_cancelled leg.outcome

abbrev pub gathered : List LegEnd → JobResult
gathered legs =
    if list_any fails_job legs
    then job_result.Failure
    else (if list_any was_cancelled legs then job_result.Cancelled else job_result.Success)

abbrev pub job_failed : JobResult → Bool
job_failed job_result.Failure = true
job_failed _ = false

abbrev pub job_cancelled : JobResult → Bool
job_cancelled job_result.Cancelled = true
job_cancelled _ = false

-- success if no job failed or was cancelled; a skipped job counts as a success
abbrev pub conclusion_of : List JobResult → Outcome
conclusion_of results =
    if list_any job_failed results
    then outcome.Failure
    else (if list_any job_cancelled results then outcome.Cancelled else outcome.Success)

-- ---- the value of a condition. GitHub Docs, "Evaluate expressions in workflows and actions": Status check functions.

-- a job without a result has neither succeeded nor failed
abbrev pub has_succeeded : Option JobResult → Bool
has_succeeded (Some job_result.Success) = true
has_succeeded _ = false

abbrev pub has_failed : Option JobResult → Bool
has_failed (Some job_result.Failure) = true
has_failed _ = false

-- the value, given the results of all ancestors and whether the run is stopping
abbrev pub condition_value : Condition → List (Option JobResult) → Bool → Bool
condition_value Success results stopping = not stopping && list_all has_succeeded results
condition_value Failure results stopping = not stopping && list_any has_failed results
condition_value Always results stopping = true
condition_value Cancelled results stopping = stopping
condition_value NotCancelled results stopping = not stopping
condition_value Never results stopping = false

-- the value of the remaining check, given the results of all ancestors
abbrev pub ancestor_test_value : AncestorTest → List (Option JobResult) → Bool
ancestor_test_value (Nothing value) results = value
ancestor_test_value AllSucceeded results = list_all has_succeeded results
ancestor_test_value AnyFailed results = list_any has_failed results

-- the results of the jobs at these indices
abbrev pub results_at : List (Option JobResult) → List ℕ → List (Option JobResult)
results_at results indexes = map (λ index. slice_index_or results index None) indexes

-- the results of a job's ancestors
abbrev pub ancestor_results : List (List ℕ) → List (Option JobResult) → ℕ → List (Option JobResult)
ancestor_results needs results job = results_at results (ancestors_of needs job)

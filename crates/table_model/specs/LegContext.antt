-- The context of a leg, and what the templates of a run, its jobs and its legs say in it.
use Rattle.std.specs.Prelude.{ℕ, ◌&&◌, List, [], ◌∷◌, map, length, count_by, Bool, pos, find, codes, Option}
use Rattle.std.specs.Prelude.{None, option_map, option_and_then, slice_get, unwrap_or, if◌then◌else◌, false, is_some}
use Rattle.std.specs.Str.{bytes_eq}
use Rattle.wf_reader.specs.Event.{event_of}
use Rattle.definitions.specs.SmallText.{Admitted}
use Rattle.table_model.specs.Runs.{RunState, direct_needs, run_at, plan_at}
use Rattle.std.specs.Fmt.{decimal}
use Rattle.std.specs.Option.{option_map_or}
use Rattle.wf_value.specs.ScalarValue.{result_word, scalar_text}
use Rattle.wf_value.specs.declared.outcome.JobResult.{JobResult}
use Rattle.wf_value.specs.declared.scalar.Scalar.{Scalar}
use Rattle.wf_value.specs.declared.scalar.Scalar.TheVariants.{Truth, Whole, Text}
use Rattle.wf_expr.specs.TemplateValue.{Values, over, sets_flag, template_value}
use Rattle.wf_reader.specs.Contexts.{sent_value}
use Rattle.run_plan.specs.PlanOf.{plan_of}
use Rattle.run_plan.specs.declared.planned.PlannedJob.{PlannedJob}
use Rattle.table_model.specs.declared.sites.LegSite.{LegSite}
use Rattle.std.specs.List.{list_all, slice_index_or}
use Rattle.wf_value.specs.declared.condition.Condition.{Condition}
use Rattle.wf_value.specs.declared.condition.Condition.TheVariants as condition
use Rattle.wf_expr.specs.declared.piece.Piece.{Piece}
use Rattle.wf_reader.specs.declared.flag.Flag.{Flag}
use Rattle.wf_reader.specs.declared.flag.Flag.TheVariants as flag
use Rattle.needs_graph.specs.Needs.{needs_at, ancestor_results as results_of_ancestors, condition_value}
pub use Rattle.table_model.specs.Runs.{job_results, needs_graph_at, needs_in, results_so_far, finished_result}

-- ---- the runs of a workflow. This project defines that a workflow is identified by its repository and its path.

-- the events of runs
abbrev pub events : List RunState → List Admitted
events runs = map (λ run. run.admitted) runs

-- whether two events have the same repository and path
abbrev pub same_workflow : Admitted → Admitted → Bool
same_workflow a b =
    bytes_eq (event_of a.body).repo (event_of b.body).repo && bytes_eq (event_of a.body).path (event_of b.body).path

-- how many of the runs are of the workflow of an event
abbrev pub runs_of_workflow : Admitted → List RunState → ℕ
runs_of_workflow event runs = count_by (λ run. same_workflow event run.admitted) runs

-- ---- the context of a leg: the values of the paths that a template in its job may use. GitHub Docs, "Contexts reference": github context,
-- inputs context, vars context, needs context, strategy context, matrix context. This project defines that the service's own repository,
-- event and numbers of a run take precedence over what its sender says.

-- the facts of a leg: the event of its run; the id, the number and the attempt of the run in decimal; the job as it is planned; the leg's
-- index in it; and the jobs that the job needs directly, each by its id with its result so far
pub record LegFacts : Type 0 where
  pub event : Admitted
  pub run_id : List ℕ
  pub run_number : List ℕ
  pub run_attempt : List ℕ
  pub job : PlannedJob
  pub leg : ℕ
  pub needs : List (List ℕ × Option JobResult)

-- ---- the service's values

-- a workflow without a name is named by its path
abbrev pub name_or_path : List ℕ → List ℕ → List ℕ
name_or_path [] path = path
name_or_path (c ∷ name) path = c ∷ name

-- the service's members of `github`, in a run of this event with this id, number and attempt
abbrev pub github_of_run : Admitted → List ℕ → List ℕ → List ℕ → List (List ℕ × Scalar)
github_of_run admitted id number attempt =
    let event = event_of admitted.body in
    (codes "workflow", Text (name_or_path event.workflow.name event.path))
    ∷ (codes "repository", Text event.repo)
    ∷ (codes "event_name", Text admitted.event)
    ∷ (codes "run_id", Text id)
    ∷ (codes "run_number", Text number)
    ∷ (codes "run_attempt", Text attempt) ∷ []

abbrev pub github_of : LegFacts → List (List ℕ × Scalar)
github_of leg = github_of_run leg.event leg.run_id leg.run_number leg.run_attempt

-- `strategy`: if the job sets no bound, all its legs may run at once
abbrev pub strategy_of : LegFacts → List (List ℕ × Scalar)
strategy_of leg =
    let total = length leg.job.legs in
    (codes "fail-fast", Truth leg.job.fail_fast)
    ∷ (codes "job-index", Whole (pos leg.leg))
    ∷ (codes "job-total", Whole (pos total))
    ∷ (codes "max-parallel", Whole (pos (unwrap_or leg.job.max_parallel total))) ∷ []

-- `matrix`: the leg's own combination
abbrev pub matrix_of : LegFacts → List (List ℕ × Scalar)
matrix_of leg = option_map_or (λ planned. planned.combo) (slice_get leg.job.legs leg.leg) []

-- the service's contexts, each with its members
abbrev pub contexts_of : LegFacts → List (List ℕ × List (List ℕ × Scalar))
contexts_of leg = (codes "github", github_of leg) ∷ (codes "strategy", strategy_of leg) ∷ (codes "matrix", matrix_of leg) ∷ []

-- the value under a name
abbrev pub under : {X : Type 0} → List ℕ → List (List ℕ × X) → Option X
under name pairs = option_map (λ p. p.1) (find (λ p. bytes_eq p.0 name) pairs)

-- the result of a job that the leg's job needs directly
abbrev pub result_of_need : LegFacts → List ℕ → Option JobResult
result_of_need leg id = option_and_then (λ result. result) (under id leg.needs)

-- `needs`, whose members are jobs, each with its `result`
abbrev pub inner_value : LegFacts → List ℕ → List ℕ → List ℕ → Option Scalar
inner_value leg context id name =
    if bytes_eq context (codes "needs") && bytes_eq name (codes "result")
    then option_map (λ result. Text (result_word result)) (result_of_need leg id)
    else None

-- the service's value of a path: a member of one of its contexts, or a member of such a member
abbrev pub service_value : LegFacts → Values
service_value leg [] = None
service_value leg (context ∷ []) = None
service_value leg (context ∷ name ∷ []) = option_and_then (under name) (under context (contexts_of leg))
service_value leg (context ∷ id ∷ name ∷ []) = inner_value leg context id name
service_value leg (context ∷ id ∷ name ∷ inner ∷ names) = None

-- ---- the context

-- the service's values take precedence over the sender's; a path without a value of the service has the sender's
abbrev pub context_of : LegFacts → Values
context_of leg = over (service_value leg) (sent_value (event_of leg.event.body).contexts)

-- the facts of the leg at a site, if the plan of its run has its job
unfoldable pub facts_at : List RunState → LegSite → Option LegFacts
facts_at runs p =
    option_and_then (λ run. option_map (λ job. record {
      event = run.admitted;
      run_id = decimal run.id;
      run_number = decimal run.number;
      run_attempt = decimal run.attempt;
      job = job;
      leg = p.leg;
      needs = direct_needs run p.job;
    }) (slice_get (plan_of run.admitted.body) p.job)) (run_at runs p.run)

-- no path has a value
abbrev pub nothing : Values
nothing path = None

-- the context of the leg at a site of a table
unfoldable pub context_at : List RunState → LegSite → Values
context_at runs p = option_map_or context_of (facts_at runs p) nothing

-- ---- what a table says about a run, a job or a leg beyond its state. GitHub Docs, "Workflow syntax for GitHub Actions": jobs.<job_id>.needs,
-- jobs.<job_id>.if, jobs.<job_id>.runs-on, jobs.<job_id>.continue-on-error.

-- ---- of a run

-- its id, or 0 if there is no such run
abbrev pub id_at : List RunState → ℕ → ℕ
id_at runs r = option_map_or (λ run. run.id) (run_at runs r) 0

-- whether the run has been asked to stop
abbrev pub is_stopping : List RunState → ℕ → Bool
is_stopping runs r = option_map_or (λ run. run.stopping) (run_at runs r) false

-- ---- of a job

-- the condition that its plan gives it; a job that is not planned never runs
abbrev pub condition_of : List RunState → ℕ → ℕ → Condition
condition_of runs r j = option_map_or (λ planned. planned.condition) (plan_at runs r j) condition.Never

-- the results of all jobs that the job needs, directly or through others
abbrev pub ancestor_results : List RunState → ℕ → ℕ → List (Option JobResult)
ancestor_results runs r j = results_of_ancestors (needs_graph_at runs r) (job_results runs r) j

-- whether the jobs at these indices all have a result
abbrev pub all_have_results : List (Option JobResult) → List ℕ → Bool
all_have_results results indexes = list_all (λ index. is_some (slice_index_or results index None)) indexes

-- whether all jobs that the job needs directly have finished
abbrev pub needs_have_finished : List RunState → ℕ → ℕ → Bool
needs_have_finished runs r j = all_have_results (job_results runs r) (needs_at (needs_graph_at runs r) j)

abbrev pub job_id : List RunState → ℕ → ℕ → List ℕ
job_id runs r j = option_map_or (λ planned. planned.id) (plan_at runs r j) []

-- how many legs the plan has for the job
abbrev pub planned_legs : List RunState → ℕ → ℕ → ℕ
planned_legs runs r j = option_map_or (λ planned. length planned.legs) (plan_at runs r j) 0

-- ---- of a leg

-- the texts of the templates' values in a context
abbrev pub label_texts : Values → List (List Piece) → List (List ℕ)
label_texts values labels = map (λ label. scalar_text (template_value values label)) labels

-- the labels that the leg asks for: its job's labels in its context
abbrev pub labels_at : List RunState → LegSite → Option (List (List ℕ))
labels_at runs p = option_map (λ planned. label_texts (context_at runs p) planned.labels) (plan_at runs p.run p.job)

-- the combination of the leg
abbrev pub combo_at : List RunState → LegSite → List (List ℕ × Scalar)
combo_at runs p = option_map_or (λ leg. leg.combo) (option_and_then (λ planned. slice_get planned.legs p.leg) (plan_at runs p.run p.job)) []

-- whether a flag is set in a context
abbrev pub is_set : Values → Flag → Bool
is_set values (flag.Fixed set) = set
is_set values (flag.Template template) = sets_flag (template_value values template)

-- whether a job's flag is set for its leg with this index. A leg that its plan does not have ignores no failure.
abbrev pub is_set_for : Values → PlannedJob → ℕ → Bool
is_set_for values planned l = is_some (slice_get planned.legs l) && is_set values planned.continue_on_error

-- whether a failure of the leg is ignored: whether its job's continue-on-error is set in its context
abbrev pub continues_on_error : List RunState → LegSite → Bool
continues_on_error runs p = option_map_or (λ planned. is_set_for (context_at runs p) planned p.leg) (plan_at runs p.run p.job) false

-- ---- whether the needs of a job have finished, and whether its condition holds, by its run alone. GitHub Docs, "Workflow syntax for GitHub
-- Actions": jobs.<job_id>.needs, jobs.<job_id>.if.

-- whether all jobs that it needs directly have finished
abbrev pub needs_finished_in : RunState → ℕ → Bool
needs_finished_in run j = all_have_results (results_so_far run.jobs) (needs_at (needs_in run) j)

-- the condition that the run's plan gives it
abbrev pub condition_in : RunState → ℕ → Condition
condition_in run j = option_map_or (λ planned. planned.condition) (slice_get (plan_of run.admitted.body) j) condition.Never

-- the value of that condition
abbrev pub may_run_in : RunState → ℕ → Bool
may_run_in run j =
    condition_value (condition_in run j) (results_of_ancestors (needs_in run) (results_so_far run.jobs) j) run.stopping

-- What runs and legs ask of concurrency groups, bound when an attempt of a run begins. By then everything that their templates use is
-- known, except the results of the jobs that a leg's job needs. Whatever these results are, the bound templates give the group and the flag
-- that the templates give. From then on comparing groups takes no memory.
use Rattle.std.specs.Prelude.{◌≡◌, ℕ, ◌&&◌, List, [], ◌∷◌, filter_map, find, Bool, codes, Option, Some, None, option_map}
use Rattle.std.specs.Prelude.{slice_get, if◌then◌else◌}
use Rattle.std.specs.List.{slice_index_or}
use Rattle.std.specs.Str.{bytes_eq}
use Rattle.wf_expr.specs.Bound.{NeedOf, Results, bound_text}
use Rattle.wf_expr.specs.TemplateValue.{Values}
use Rattle.wf_reader.specs.declared.concurrency.Concurrency.{Concurrency}
use Rattle.group_name.specs.BoundGroup.{group_at as bound_group_at}
use Rattle.needs_graph.specs.Needs.{needs_at}
use Rattle.run_plan.specs.PlanOf.{plan_graph, plan_of}
use Rattle.run_plan.specs.declared.planned.PlannedJob.{PlannedJob}
use Rattle.table_model.specs.Groups.{RunFacts, named_group}
use Rattle.table_model.specs.Runs.{has_id, results_so_far, RunState}
use Rattle.table_model.specs.LegContext.{LegFacts, is_set}
use Rattle.table_bindings.specs.declared.groups.GroupRequest.{GroupRequest}
use Rattle.table_bindings.specs.declared.groups.BoundFlag.{BoundFlag}
use Rattle.table_bindings.specs.declared.groups.BoundFlag.TheVariants as bound

-- ---- which paths depend on results

-- a run's own templates depend on none
abbrev pub no_need : NeedOf
no_need path = None

-- for `needs.ID.result`, where job `j` of the plan needs the job ID directly: the index of that job
abbrev pub need_of_job : List PlannedJob → ℕ → NeedOf
need_of_job plan j [] = None
need_of_job plan j (context ∷ []) = None
need_of_job plan j (context ∷ id ∷ []) = None
need_of_job plan j (context ∷ id ∷ name ∷ []) =
    if bytes_eq context (codes "needs") && bytes_eq name (codes "result")
    then find (has_id plan id) (needs_at (plan_graph plan) j)
    else None
need_of_job plan j (context ∷ id ∷ name ∷ inner ∷ names) = None

-- ---- one `concurrency`

-- whether a flag is set, given the results
abbrev pub is_set_by : Results → BoundFlag → Bool
is_set_by results (bound.Fixed set) = set
is_set_by results (bound.Template pieces) = bytes_eq (bound_text results pieces) (codes "true")

-- whatever the results, the bound templates give what the templates give in the context with these results
pub record Says (repository : List ℕ) (values : Results → Values) (requested : Concurrency) (kept : GroupRequest) : Type 0 where
  pub group : (results : Results) → bound_group_at results kept.group ≡ named_group repository (values results) requested
  pub cancels : (results : Results) → is_set_by results kept.cancels ≡ is_set (values results) requested.cancel_in_progress

-- a `concurrency` is bound exactly if there is one, and then gives what its templates give
abbrev pub SaysSo : List ℕ → (Results → Values) → Option Concurrency → Option GroupRequest → Type 0
SaysSo repository values None None = Unit {0}
SaysSo repository values None (Some kept) = ⊥
SaysSo repository values (Some requested) None = ⊥
SaysSo repository values (Some requested) (Some kept) = Says repository values requested kept

-- ---- a leg with results

-- the facts of a leg, given these results of its run's jobs
abbrev pub facts_by : RunFacts → ℕ → PlannedJob → ℕ → Results → LegFacts
facts_by run j job l results =
    let plan = plan_of run.event.body in
    record {
      event = run.event;
      run_id = run.run_id;
      run_number = run.run_number;
      run_attempt = run.run_attempt;
      job = job;
      leg = l;
      needs = filter_map (λ k. option_map (λ (planned : PlannedJob). (planned.id, results k)) (slice_get plan k))
          (needs_at (plan_graph plan) j);
    }

-- the results of a run's jobs, by index
abbrev pub results_by_index : RunState → Results
results_by_index run j = slice_index_or (results_so_far run.jobs) j None

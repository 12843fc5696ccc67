-- What a run and its legs ask of concurrency groups and of runners, bound when an attempt of the run begins.
use Rattle.std.specs.Prelude.{◌≡◌, ℕ, List, length, MatchOption, Option, Some, IfSome, option_and_then, slice_get}
use Rattle.wf_expr.specs.Bound.{Results}
use Rattle.wf_reader.specs.Event.{event_of}
use Rattle.run_plan.specs.PlanOf.{plan_of}
use Rattle.run_plan.specs.declared.planned.PlannedJob.{PlannedJob}
use Rattle.table_model.specs.Groups.{RunFacts, concurrency_of_leg, run_context, run_facts_at}
use Rattle.table_model.specs.LegContext.{context_of}
use Rattle.table_model.specs.Runs.{RunState}
use Rattle.table_bindings.specs.BoundFlags.{FlagsSay}
use Rattle.table_bindings.specs.BoundGroups.{SaysSo, facts_by}
use Rattle.table_bindings.specs.KnownLabels.{AreKept, KeepsTexts}
use Rattle.table_bindings.specs.PlainLabels.{AreTheTexts}
use Rattle.table_bindings.specs.declared.bindings.JobBindings.{JobBindings}
use Rattle.table_bindings.specs.declared.bindings.RunBindings.{RunBindings}
use Rattle.table_bindings.specs.declared.groups.GroupRequest.{GroupRequest}
use Rattle.table_bindings.specs.declared.groups.BoundFlag.{BoundFlag}
use Rattle.table_model.specs.declared.holder.Holder.{Holder}
use Rattle.table_model.specs.declared.holder.Holder.TheVariants.{Run, Leg}

-- ---- what is kept

-- what the run itself, or one of its legs, asks of a group
abbrev pub group_request_of : RunBindings → Holder → Option GroupRequest
group_request_of kept (Run r) = kept.own
group_request_of kept (Leg p) = option_and_then (λ job. slice_get job.groups p.leg) (slice_get kept.jobs p.job)

-- given the results of the run's jobs, these are the labels of the leg for which something is kept
abbrev pub KeepsLabels : Results → JobBindings → ℕ → List (List ℕ) → Type 0
KeepsLabels results job l whole = MatchOption (slice_get job.labels l) (job.plain ≡ Some whole) (λ kept. KeepsTexts results kept whole)

abbrev pub KeepsLabelsAt : Results → RunBindings → ℕ → ℕ → List (List ℕ) → Type 0
KeepsLabelsAt results kept j l whole = MatchOption (slice_get kept.jobs j) ⊥ (λ job. KeepsLabels results job l whole)

-- what was bound for whether the leg's failure is ignored
abbrev pub flag_for : RunBindings → ℕ → ℕ → Option BoundFlag
flag_for kept j l = option_and_then (λ job. slice_get job.flags l) (slice_get kept.jobs j)

-- ---- what the bindings say

-- whatever the results of the run's jobs, the bindings give what the legs of a job ask, and whether their failures are ignored
pub record JobSays (run : RunFacts) (j : ℕ) (job : PlannedJob) (kept : JobBindings) : Type 0 where
  pub groups : (l : ℕ)
      → SaysSo (event_of run.event.body).repo (λ results. context_of (facts_by run j job l results)) (concurrency_of_leg job l)
      (slice_get kept.groups l)
  pub labels : AreKept run j job kept.plain kept.labels
  pub plain : IfSome kept.plain (AreTheTexts job.labels)
  pub flags : FlagsSay run j job kept.flags

-- whatever the results, the bindings give what the run itself and the legs of all its jobs ask
pub record RunSays (run : RunFacts) (kept : RunBindings) : Type 0 where
  pub own : SaysSo (event_of run.event.body).repo (λ results. run_context run) (event_of run.event.body).workflow.concurrency kept.own
  pub as_many : length kept.jobs ≡ length (plan_of run.event.body)
  pub jobs : (j : ℕ) (bindings : JobBindings) → slice_get kept.jobs j ≡ Some bindings → (job : PlannedJob)
      → slice_get (plan_of run.event.body) j ≡ Some job → JobSays run j job bindings

-- each run of a table has its bindings
pub record AreBound (runs : List RunState) (kept : List RunBindings) : Type 0 where
  pub as_many : length kept ≡ length runs
  pub each : (r : ℕ) (run : RunFacts) (bindings : RunBindings) → run_facts_at runs r ≡ Some run → slice_get kept r ≡ Some bindings → RunSays run bindings

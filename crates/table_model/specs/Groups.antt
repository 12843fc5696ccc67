-- The concurrency groups of a table.
use Rattle.std.specs.Prelude.{ℕ, ◌+◌, List, [], ◌∷◌, Bool, false, codes, Option, None, option_map, option_and_then, slice_get, ◌≡◌, ◌++◌}
use Rattle.std.specs.Prelude.{map, filter, find, true, ◌&&◌, ◌||◌, not}
use Rattle.std.specs.Fmt.{decimal}
use Rattle.std.specs.Option.{option_map_or}
use Rattle.wf_value.specs.ScalarValue.{scalar_text}
use Rattle.wf_value.specs.declared.scalar.Scalar.{Scalar}
use Rattle.wf_expr.specs.TemplateValue.{Values, over, template_value}
use Rattle.wf_reader.specs.Contexts.{sent_value}
use Rattle.wf_reader.specs.Event.{event_of}
use Rattle.wf_reader.specs.declared.concurrency.Concurrency.{Concurrency}
use Rattle.group_name.specs.Group.{Group, group_of, same_group}
use Rattle.definitions.specs.SmallText.{Admitted}
use Rattle.run_plan.specs.declared.planned.PlannedJob.{PlannedJob}
use Rattle.table_model.specs.LegContext.{LegFacts, context_of, facts_at, github_of_run, under, is_set}
use Rattle.table_model.specs.Runs.{run_at, leg_at, leg_sites, RunState, placed, is_live}
use Rattle.table_model.specs.declared.holder.Holder.{Holder}
use Rattle.table_model.specs.declared.holder.Holder.TheVariants.{Run, Leg}
use Rattle.std.specs.List.{list_any}
use Rattle.table_model.specs.Fitting.{is_stopping_leg}
use Rattle.table_model.specs.declared.phases.LegPhase.{LegPhase}
use Rattle.table_model.specs.declared.phases.LegPhase.TheVariants as leg_phase
use Rattle.table_model.specs.declared.phases.RunPhase.{RunPhase}
use Rattle.table_model.specs.declared.phases.RunPhase.TheVariants as run_phase

-- ---- the concurrency group of a run, which its workflow names, and of a leg, which its job names, and whether each has cancel-in-progress.
-- GitHub Docs, "Workflow syntax for GitHub Actions": concurrency, jobs.<job_id>.concurrency; "Contexts reference": github context, inputs
-- context, vars context. This project defines that an empty name means no group.

-- ---- the context of a run, for the workflow's own `concurrency`

-- the facts of a run: its event, and its id, its number and its attempt in decimal
pub record RunFacts : Type 0 where
  pub event : Admitted
  pub run_id : List ℕ
  pub run_number : List ℕ
  pub run_attempt : List ℕ

-- the service's values, which are the members of `github`
abbrev pub value_in_github : List (List ℕ × Scalar) → Values
value_in_github github [] = None
value_in_github github (context ∷ []) = None
value_in_github github (context ∷ name ∷ []) = option_and_then (under name) (under context ((codes "github", github) ∷ []))
value_in_github github (context ∷ name ∷ inner ∷ names) = None

-- the service's values take precedence over the sender's
abbrev pub run_context : RunFacts → Values
run_context run =
    over (value_in_github (github_of_run run.event run.run_id run.run_number run.run_attempt)) (sent_value (event_of run.event.body).contexts)

abbrev pub run_facts : RunState → RunFacts
run_facts run = record {
  event = run.admitted;
  run_id = decimal run.id;
  run_number = decimal run.number;
  run_attempt = decimal run.attempt;
}

-- the facts of run `r`
unfoldable pub run_facts_at : List RunState → ℕ → Option RunFacts
run_facts_at runs r = option_map run_facts (run_at runs r)

-- ---- the group

-- the group that a `concurrency` names in a context
abbrev pub named_group : List ℕ → Values → Concurrency → Option Group
named_group repository values requested = group_of repository (scalar_text (template_value values requested.group))

abbrev pub run_group : RunFacts → Option Group
run_group run =
    let event = event_of run.event.body in option_and_then (named_group event.repo (run_context run)) event.workflow.concurrency

-- the `concurrency` of a job for one of its legs; none if the job has no such leg
abbrev pub concurrency_of_leg : PlannedJob → ℕ → Option Concurrency
concurrency_of_leg job l = option_and_then (λ _. job.concurrency) (slice_get job.legs l)

abbrev pub leg_group : LegFacts → Option Group
leg_group leg = option_and_then (named_group (event_of leg.event.body).repo (context_of leg)) (concurrency_of_leg leg.job leg.leg)

-- the group of a run or of a leg of a table, if it has one
unfoldable pub group_at : List RunState → Holder → Option Group
group_at runs (Run r) = option_and_then run_group (run_facts_at runs r)
group_at runs (Leg p) = option_and_then leg_group (facts_at runs p)

-- ---- cancel-in-progress

abbrev pub run_cancels : RunFacts → Bool
run_cancels run =
    option_map_or (λ requested. is_set (run_context run) requested.cancel_in_progress) (event_of run.event.body).workflow.concurrency false

abbrev pub leg_cancels : LegFacts → Bool
leg_cancels leg = option_map_or (λ requested. is_set (context_of leg) requested.cancel_in_progress) (concurrency_of_leg leg.job leg.leg) false

-- whether the arrival of a run or of a leg cancels what is in progress
unfoldable pub cancels_in_progress : List RunState → Holder → Bool
cancels_in_progress runs (Run r) = option_map_or run_cancels (run_facts_at runs r) false
cancels_in_progress runs (Leg p) = option_map_or leg_cancels (facts_at runs p) false

-- ---- the state of a concurrency group. GitHub Docs, "Control the concurrency of workflows and jobs".

-- the holder in progress in a group, whether it has been asked to stop, and the pending holder
pub record GroupState : Type 0 where
  pub in_progress : Option Holder
  pub stopping : Bool
  pub pending : Option Holder

-- ---- the concurrency groups of a table: the holder that is pending in a group, and the one that is in progress. GitHub Docs, "Control the
-- concurrency of workflows and jobs": at most one job or workflow of a group runs, and at most one is pending.

-- ---- waiting and holding

abbrev pub run_waits : RunPhase → Bool
run_waits run_phase.Waiting = true
run_waits _ = false

abbrev pub leg_waits : LegPhase → Bool
leg_waits leg_phase.Waiting = true
leg_waits _ = false

-- a leg that is ready holds its group, and a leg that is asked to stop still holds it
abbrev pub leg_holds : LegPhase → Bool
leg_holds leg_phase.Ready = true
leg_holds leg_phase.Running = true
leg_holds leg_phase.Stopping = true
leg_holds _ = false

abbrev pub waits : List RunState → Holder → Bool
waits runs (Run r) = option_map_or (λ x. run_waits x.phase) (run_at runs r) false
waits runs (Leg p) = option_map_or (λ x. leg_waits x.phase) (leg_at runs p) false

abbrev pub holds : List RunState → Holder → Bool
holds runs (Run r) = option_map_or (λ x. is_live x.phase) (run_at runs r) false
holds runs (Leg p) = option_map_or (λ x. leg_holds x.phase) (leg_at runs p) false

abbrev pub is_stop_requested : List RunState → Holder → Bool
is_stop_requested runs (Run r) = option_map_or (λ x. x.stopping) (run_at runs r) false
is_stop_requested runs (Leg p) = option_map_or (λ x. is_stopping_leg x.phase) (leg_at runs p) false

-- ---- the holders of a group: the runs and legs that have arrived in it and have not ended

abbrev pub is_in : List RunState → Group → Holder → Bool
is_in runs g h = option_map_or (same_group g) (group_at runs h) false

abbrev pub is_pending_in : List RunState → Group → Holder → Bool
is_pending_in runs g h = is_in runs g h && waits runs h

abbrev pub is_in_progress_in : List RunState → Group → Holder → Bool
is_in_progress_in runs g h = is_in runs g h && holds runs h

-- all runs and legs
abbrev pub all_holders : List RunState → List Holder
all_holders runs = map (λ r. Run r.0) (placed runs) ++ map (λ p. Leg p) (leg_sites runs)

abbrev pub holders_in : List RunState → Group → List Holder
holders_in runs g = filter (λ h. is_pending_in runs g h || is_in_progress_in runs g h) (all_holders runs)

abbrev pub pending_in : List RunState → Group → List Holder
pending_in runs g = filter (is_pending_in runs g) (all_holders runs)

abbrev pub in_progress_in : List RunState → Group → List Holder
in_progress_in runs g = filter (is_in_progress_in runs g) (all_holders runs)

-- In each group at most one holder is pending, and at most one is in progress.
pub record HasOneEach (runs : List RunState) : Type 0 where
  pub pending : (g : Group) (h k : Holder) → is_pending_in runs g h ≡ true → is_pending_in runs g k ≡ true → h ≡ k
  pub in_progress : (g : Group) (h k : Holder) → is_in_progress_in runs g h ≡ true → is_in_progress_in runs g k ≡ true → h ≡ k

-- The same apart from a newcomer that waits and has not arrived yet: at most one of the others is pending, and at most one is in progress.
pub record HasOneBeside (runs : List RunState) (newcomer : Holder) : Type 0 where
  pub pending : (g : Group) (h k : Holder) → (h ≡ newcomer → ⊥) → (k ≡ newcomer → ⊥) → is_pending_in runs g h ≡ true
      → is_pending_in runs g k ≡ true → h ≡ k
  pub in_progress : (g : Group) (h k : Holder) → is_in_progress_in runs g h ≡ true → is_in_progress_in runs g k ≡ true → h ≡ k

-- ---- which holders may start

-- whether a holder of the group is in progress
abbrev pub is_taken : List RunState → Group → Bool
is_taken runs g = list_any (is_in_progress_in runs g) (all_holders runs)

-- a run or leg without a group may always start
abbrev pub may_start : List RunState → Holder → Bool
may_start runs h = option_map_or (λ g. not (is_taken runs g)) (group_at runs h) true

-- ---- the state of a group that has at most one holder of each kind

abbrev pub group_state : List RunState → Group → GroupState
group_state runs g =
    let one : Option Holder = find (is_in_progress_in runs g) (all_holders runs) in
    record {
      in_progress = one;
      stopping = option_map_or (is_stop_requested runs) one false;
      pending = find (is_pending_in runs g) (all_holders runs);
    }

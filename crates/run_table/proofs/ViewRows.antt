-- Examples: views of literal runs, and their texts.
use Rattle.std.proofs.Common.{◌≡◌, ℕ, List, [], ◌∷◌, ◌++◌, true, false, Some, None, codes, refl, ap}
use Rattle.std.specs.Fmt.{digits}
use Rattle.wf_value.specs.declared.condition.Condition.TheVariants as condition
use Rattle.wf_value.specs.declared.outcome.Outcome.TheVariants as outcome
use Rattle.wf_value.specs.declared.outcome.JobResult.TheVariants as result
use Rattle.wf_reader.specs.Event.{event_of}
use Rattle.wf_reader.specs.declared.flag.Flag.TheVariants as flag
use Rattle.run_plan.specs.PlanOf.{plan_of}
use Rattle.definitions.specs.SmallText.{Admitted}
use Rattle.run_plan.specs.declared.planned.PlannedJob.{PlannedJob}
use Rattle.table_model.specs.Forgotten.{none_forgotten, number_of_next}
use Rattle.table_model.specs.Step.{seen}
use Rattle.table_model.specs.TableState.{TableState}
use Rattle.table_model.specs.Runs.{LegState, JobState, RunState}
use Rattle.table_model.specs.ViewText.{seen_of, seen_text, run_text}
use Rattle.table_model.specs.declared.phases.JobPhase.{JobPhase}
use Rattle.table_model.specs.declared.phases.JobPhase.TheVariants as state
use Rattle.table_model.specs.declared.phases.LegPhase.{LegPhase}
use Rattle.table_model.specs.declared.phases.LegPhase.TheVariants as leg
use Rattle.table_model.specs.declared.phases.RunPhase.TheVariants as phase

-- ---- a run's text, for a plan with literal ids

abbrev planned : List ℕ → PlannedJob
planned id = record {
  id = id;
  labels = [];
  needs = [];
  condition = condition.Success;
  continue_on_error = flag.Fixed false;
  concurrency = None;
  fail_fast = true;
  max_parallel = None;
  legs = [];
}

abbrev job : JobPhase → List LegState → JobState
job s legs = record { phase = s; legs = legs }

abbrev pub unclaimed : LegPhase → LegState
unclaimed p = record { phase = p; lease = None }

abbrev pub claimed : LegPhase → LegState
claimed p = record { phase = p; lease = Some 1 }

abbrev build : List PlannedJob
build = planned (codes "build") ∷ []

abbrev go : List PlannedJob
go = planned (codes "go") ∷ []

abbrev three : List PlannedJob
three = planned (codes "a") ∷ planned (codes "b") ∷ planned (codes "c") ∷ []

completed : run_text build phase.Ended (job (state.Finished result.Success) (claimed (leg.Ended outcome.Success) ∷ []) ∷ [])
    ≡ codes "completed success build:success(success)"
completed = refl

queued : run_text build phase.Live (job state.Open (unclaimed leg.Ready ∷ []) ∷ []) ≡ codes "queued - build:open(ready)"
queued = refl

in_progress : run_text build phase.Live (job state.Open (claimed leg.Running ∷ []) ∷ []) ≡ codes "in_progress - build:open(running)"
in_progress = refl

pending : run_text go phase.Waiting (job state.Blocked [] ∷ []) ≡ codes "pending - go:blocked"
pending = refl

cancelled_while_pending : run_text go phase.Ended (job (state.Finished result.Cancelled) [] ∷ [])
    ≡ codes "completed cancelled go:cancelled()"
cancelled_while_pending = refl

-- one leg is ready, one was cancelled without a claim, and one waits
three_legs : run_text (planned (codes "m") ∷ []) phase.Live
    (job state.Open (unclaimed leg.Ready ∷ unclaimed (leg.Ended outcome.Cancelled) ∷ unclaimed leg.Waiting ∷ []) ∷ [])
    ≡ codes "queued - m:open(ready,cancelled,waiting)"
three_legs = refl

failed_with_skipped : run_text three phase.Ended
    (job (state.Finished result.Failure) (claimed (leg.Ended outcome.Failure) ∷ [])
    ∷ job (state.Finished result.Success) (claimed (leg.Ended outcome.Success) ∷ []) ∷ job (state.Finished result.Skipped) [] ∷ [])
    ≡ codes "completed failure a:failure(failure) b:success(success) c:skipped()"
failed_with_skipped = refl

stopping : run_text (planned (codes "m") ∷ []) phase.Live
    (job state.Open (claimed leg.Stopping ∷ claimed (leg.Ended outcome.Failure) ∷ unclaimed (leg.Ended outcome.Cancelled) ∷ []) ∷ [])
    ≡ codes "in_progress - m:open(stopping,failure,cancelled)"
stopping = refl

-- ---- whole views, of runs whose bodies have a known plan, repository and path

abbrev admitted : List ℕ → Admitted
admitted body = record { delivery = codes "d1"; event = codes "push"; body = body }

abbrev completed_run : List ℕ → RunState
completed_run body =
    record {
      id = 1;
      number = 1;
      admitted = admitted body;
      attempt = 1;
      phase = phase.Ended;
      stopping = false;
      jobs =
          job (state.Finished result.Success) (claimed (leg.Ended outcome.Success) ∷ []) ∷ [];
    }

look_at_a_completed_run : (body : List ℕ) → plan_of body ≡ build
    → seen_text (record { id = 1; number = 1; run = completed_run body }) ≡ codes "run 1 1 completed success build:success(success)"
unfolding digits
look_at_a_completed_run body planned_so = ap (λ plan. codes "run 1 1 " ++ run_text plan phase.Ended (completed_run body).jobs) planned_so

-- from the second attempt on, the attempt follows the number
look_at_a_second_attempt : (body : List ℕ) → plan_of body ≡ build
    → seen_text (record { id = 1; number = 1; run = record (completed_run body) { attempt = 2 } })
    ≡ codes "run 1 1.2 completed success build:success(success)"
unfolding digits
look_at_a_second_attempt body planned_so = ap (λ plan. codes "run 1 1.2 " ++ run_text plan phase.Ended (completed_run body).jobs) planned_so

-- the number counts the runs of the same repository and path: here the third run is the second of its workflow
numbered_by_workflow : (ci cd : List ℕ) → (event_of ci).repo ≡ codes "o/r" → (event_of cd).repo ≡ codes "o/r"
    → (event_of ci).path ≡ codes "ci.json" → (event_of cd).path ≡ codes "cd.json"
    → number_of_next none_forgotten (completed_run ci ∷ completed_run cd ∷ []) (admitted ci) ≡ 2
numbered_by_workflow ci cd ci_repo cd_repo ci_path cd_path = simp (ci_repo, cd_repo, ci_path, cd_path)

-- a table with one run, of the id after those that are forgotten
abbrev one_run : ℕ → List ℕ → TableState
one_run through body = record {
  last_lease = 0;
  forgotten = record { through = through; counts = []; deliveries = [] };
  runs = completed_run body ∷ [];
  runners = [];
}

no_such_run : (body : List ℕ) → seen (one_run 0 body) 2 ≡ None
no_such_run body = refl

forgotten_run : (body : List ℕ) → seen (one_run 1 body) 1 ≡ None
forgotten_run body = refl

run_after_it : (body : List ℕ) → seen (one_run 1 body) 2 ≡ Some (seen_of (completed_run body))
run_after_it body = refl

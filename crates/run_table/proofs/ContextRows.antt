-- Examples, by computation: the context of a leg, in a job with two legs that needs two jobs.
use Rattle.std.specs.Prelude.{◌≡◌, ℕ, List, [], ◌∷◌, codes, Option, Some, None, false, pos, refl}
use Rattle.wf_value.specs.declared.condition.Condition.TheVariants as condition
use Rattle.wf_value.specs.declared.outcome.JobResult.{JobResult}
use Rattle.wf_value.specs.declared.outcome.JobResult.TheVariants as result
use Rattle.wf_value.specs.declared.scalar.Scalar.TheVariants.{Truth, Whole, Text}
use Rattle.wf_reader.specs.declared.flag.Flag.TheVariants.{Fixed}
use Rattle.definitions.specs.SmallText.{Admitted}
use Rattle.run_plan.specs.declared.planned.PlannedJob.{PlannedJob}
use Rattle.table_model.specs.LegContext.{LegFacts, context_of}

abbrev event : Admitted
event = record { delivery = codes "d1"; event = codes "push"; body = [] }

-- its second leg has a member that the first lacks
abbrev job : PlannedJob
job = record {
  id = codes "m";
  labels = [];
  needs = [];
  condition = condition.Success;
  continue_on_error = Fixed false;
  concurrency = None;
  fail_fast = false;
  max_parallel = None;
  legs =
      record { combo = (codes "os", Text (codes "linux")) ∷ [] }
      ∷ record { combo = (codes "gpu", Truth false) ∷ (codes "os", Text (codes "mac")) ∷ [] }
      ∷ [];
}

-- one of the needed jobs has failed, and the other has no result
abbrev needs : List (List ℕ × Option JobResult)
needs = (codes "a", Some result.Failure) ∷ (codes "b", None) ∷ []

abbrev leg_at : ℕ → LegFacts
leg_at number = record {
  event = event;
  run_id = codes "7";
  run_number = codes "3";
  run_attempt = codes "2";
  job = job;
  leg = number;
  needs = needs;
}

own_member : context_of (leg_at 1) (codes "matrix" ∷ codes "gpu" ∷ []) ≡ Some (Truth false)
own_member = refl

members_of_another_leg : context_of (leg_at 0) (codes "matrix" ∷ codes "gpu" ∷ []) ≡ None
members_of_another_leg = refl

first_os : context_of (leg_at 0) (codes "matrix" ∷ codes "os" ∷ []) ≡ Some (Text (codes "linux"))
first_os = refl

second_os : context_of (leg_at 1) (codes "matrix" ∷ codes "os" ∷ []) ≡ Some (Text (codes "mac"))
second_os = refl

index : context_of (leg_at 1) (codes "strategy" ∷ codes "job-index" ∷ []) ≡ Some (Whole (pos 1))
index = refl

-- the number of legs, if no bound is set
bound : context_of (leg_at 0) (codes "strategy" ∷ codes "max-parallel" ∷ []) ≡ Some (Whole (pos 2))
bound = refl

run_id : context_of (leg_at 0) (codes "github" ∷ codes "run_id" ∷ []) ≡ Some (Text (codes "7"))
run_id = refl

run_attempt : context_of (leg_at 0) (codes "github" ∷ codes "run_attempt" ∷ []) ≡ Some (Text (codes "2"))
run_attempt = refl

event_name : context_of (leg_at 0) (codes "github" ∷ codes "event_name" ∷ []) ≡ Some (Text (codes "push"))
event_name = refl

need_with_result : context_of (leg_at 0) (codes "needs" ∷ codes "a" ∷ codes "result" ∷ []) ≡ Some (Text (codes "failure"))
need_with_result = refl

need_without_result : context_of (leg_at 0) (codes "needs" ∷ codes "b" ∷ codes "result" ∷ []) ≡ None
need_without_result = refl

not_needed : context_of (leg_at 0) (codes "needs" ∷ codes "c" ∷ codes "result" ∷ []) ≡ None
not_needed = refl

-- a needed job has no other member and is not itself a scalar
other_member : context_of (leg_at 0) (codes "needs" ∷ codes "a" ∷ codes "outputs" ∷ []) ≡ None
other_member = refl

need_itself : context_of (leg_at 0) (codes "needs" ∷ codes "a" ∷ []) ≡ None
need_itself = refl

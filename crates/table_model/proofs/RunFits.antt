-- What each run of a table satisfies on its own.
use Rattle.std.specs.Prelude.{◌≡◌, ℕ, List, [], length, true, Option, Some, option_map, option_and_then, slice_get}
use Rattle.std.proofs.Common.{ap, sym, ◌∙◌}
use Rattle.std.specs.Option.{option_map_or}
use Rattle.wf_value.specs.declared.outcome.JobResult.{JobResult}
use Rattle.definitions.specs.SmallText.{Admitted}
use Rattle.run_plan.specs.PlanOf.{plan_of}
use Rattle.run_plan.specs.declared.planned.PlannedJob.{PlannedJob}
use Rattle.table_model.specs.Runs.{run_at, job_at, leg_at, plan_at, LegState, JobState, RunState}
use Rattle.table_model.specs.declared.sites.LegSite.{LegSite}
use Rattle.table_model.specs.Settling.{result_at}
use Rattle.table_model.specs.Sound.{JobsAreThePlans, RunPhasesFit, PhaseFits, JobsFit, LegsFit, NeedsComeFirst, LeasesFit, LeaseFits}
use Rattle.table_model.specs.LegContext.{needs_have_finished, planned_legs}
use Rattle.table_model.proofs.Optional.{from_and_then, and_then-option_map}

pub record JobFits (planned : ℕ) (result : JobResult) (x : JobState) : Type 0 where
  pub legs_fit : LegsFit planned result x.phase x.legs
  pub leases_fit : (l : ℕ) (y : LegState) → slice_get x.legs l ≡ Some y → LeaseFits y.phase y.lease

pub record RunFits (runs : List RunState) (r : ℕ) (x : RunState) : Type 0 where
  pub has_its_jobs : length x.jobs ≡ length (plan_of x.admitted.body)
  pub phase_fits : PhaseFits x.phase x.stopping x.jobs
  pub jobs_fit : (j : ℕ) (y : JobState) → slice_get x.jobs j ≡ Some y → JobFits (planned_legs runs r j) (result_at runs r j y) y
  pub needs_first : (j : ℕ) (y : JobState) → slice_get x.jobs j ≡ Some y → (y.legs ≡ [] → ⊥) → needs_have_finished runs r j ≡ true

abbrev pub RunsFit : List RunState → Type 0
RunsFit runs = (r : ℕ) (x : RunState) → run_at runs r ≡ Some x → RunFits runs r x

-- ---- between the rules over all sites and each run

pub job_in_run : (runs : List RunState) (r j : ℕ) (x : RunState) → run_at runs r ≡ Some x → job_at runs r j ≡ slice_get x.jobs j
job_in_run runs r j x e = ap (option_and_then (λ (run : RunState). slice_get run.jobs j)) e

pub leg_in_job : (runs : List RunState) (p : LegSite) (y : JobState) → job_at runs p.run p.job ≡ Some y
    → leg_at runs p ≡ slice_get y.legs p.leg
leg_in_job runs p y e = ap (option_and_then (λ (job : JobState). slice_get job.legs p.leg)) e

pub runs_fit : (runs : List RunState) → JobsAreThePlans runs → RunPhasesFit runs → JobsFit runs → NeedsComeFirst runs → LeasesFit runs
    → RunsFit runs
runs_fit runs jobs phases fits needs leases r x e = record {
  has_its_jobs = jobs r x e;
  phase_fits = phases r x e;
  jobs_fit = (λ j y f.
      let at = job_in_run runs r j x e ∙ f in
      record {
        legs_fit = fits r j y at;
        leases_fit = (λ l z g. leases (record { run = r; job = j; leg = l }) z
            (leg_in_job runs (record { run = r; job = j; leg = l }) y at ∙ g));
      });
  needs_first = (λ j y f some. needs r j y (job_in_run runs r j x e ∙ f) some);
}

pub jobs_are_the_plans : (runs : List RunState) → RunsFit runs → JobsAreThePlans runs
jobs_are_the_plans runs fit r x e = (fit r x e).has_its_jobs

pub run_phases_fit : (runs : List RunState) → RunsFit runs → RunPhasesFit runs
run_phases_fit runs fit r x e = (fit r x e).phase_fits

job_fits : (runs : List RunState) → RunsFit runs → (r j : ℕ) (y : JobState) → job_at runs r j ≡ Some y
    → JobFits (planned_legs runs r j) (result_at runs r j y) y
job_fits runs fit r j y e =
    let f = from_and_then (λ (run : RunState). slice_get run.jobs j) (run_at runs r) y e in
    (fit r f.value f.is).jobs_fit j y f.gives

pub jobs_fit : (runs : List RunState) → RunsFit runs → JobsFit runs
jobs_fit runs fit r j y e = (job_fits runs fit r j y e).legs_fit

pub needs_come_first : (runs : List RunState) → RunsFit runs → NeedsComeFirst runs
needs_come_first runs fit r j y e some =
    let f = from_and_then (λ (run : RunState). slice_get run.jobs j) (run_at runs r) y e in
    (fit r f.value f.is).needs_first j y f.gives some

pub leases_fit : (runs : List RunState) → RunsFit runs → LeasesFit runs
leases_fit runs fit p z e =
    let f = from_and_then (λ (job : JobState). slice_get job.legs p.leg) (job_at runs p.run p.job) z e in
    (job_fits runs fit p.run p.job f.value f.is).leases_fit p.leg z f.gives

-- ---- the plan depends only on what was admitted

abbrev pub admitted_at : List RunState → ℕ → Option Admitted
admitted_at runs r = option_map (λ run. run.admitted) (run_at runs r)

plan_by_admitted : (runs : List RunState) (r j : ℕ)
    → option_and_then (λ (a : Admitted). slice_get (plan_of a.body) j) (admitted_at runs r) ≡ plan_at runs r j
plan_by_admitted runs r j =
    and_then-option_map (λ (a : Admitted). slice_get (plan_of a.body) j) (λ (run : RunState). run.admitted) (run_at runs r)

pub plan_at_same : (runs next : List RunState) (r j : ℕ) → admitted_at next r ≡ admitted_at runs r → plan_at next r j ≡ plan_at runs r j
plan_at_same runs next r j e =
    sym (plan_by_admitted next r j) ∙ ap (option_and_then (λ (a : Admitted). slice_get (plan_of a.body) j)) e ∙ plan_by_admitted runs r j

pub planned_legs_same : (runs next : List RunState) (r j : ℕ) → admitted_at next r ≡ admitted_at runs r
    → planned_legs next r j ≡ planned_legs runs r j
planned_legs_same runs next r j e =
    ap (λ o. option_map_or (λ (planned : PlannedJob). length planned.legs) o 0) (plan_at_same runs next r j e)

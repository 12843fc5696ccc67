-- The runs of a table can be stored: a rule would apply to a new leg, and no job has more legs than its plan.
use Rattle.std.specs.Prelude.{◌≡◌, ℕ, ◌≤◌, List, [], ◌∷◌, map, flat_map, length, Bool, true, false, is_some, Option, Some, None}
use Rattle.std.specs.Prelude.{option_and_then}
use Rattle.std.specs.Prelude.{if◌then◌else◌, slice_get, refl}
use Rattle.std.specs.List.{AllByRecursion}
use Rattle.std.specs.Option.{option_map_or}
use Rattle.std.proofs.Common.{arith, ap, subst, ◌∙◌, inl, inr}
use Rattle.wf_value.specs.declared.outcome.JobResult.{JobResult}
use Rattle.run_plan.specs.PlanOf.{plan_of}
use Rattle.run_plan.specs.declared.planned.PlannedJob.{PlannedJob}
use Rattle.run_plan.proofs.FewLegs.{few_planned}
use Rattle.table_model.specs.Runs.{placed, finished_result, job_at, leg_at, run_at, is_new, LegState, JobState, RunState}
use Rattle.table_model.specs.declared.sites.LegSite.{LegSite}
use Rattle.table_model.specs.Settling.{leg_has_ended, is_live, is_finished, job_sites, leg_rule, leg_rule_in, outcome_of, result_at, rule_sites}
use Rattle.table_model.specs.Settling.{run_sites, applies, first_site}
use Rattle.table_model.specs.Sound.{IsSound, LegsFit, PhaseFits}
use Rattle.run_table.specs.Storable.{IsStorable, LegsAreFew}
use Rattle.table_model.specs.TableState.{TableState}
use Rattle.table_model.specs.LegContext.{planned_legs}
use Rattle.table_model.specs.declared.phases.JobPhase.{JobPhase}
use Rattle.table_model.specs.declared.phases.JobPhase.TheVariants as job
use Rattle.table_model.specs.declared.phases.LegPhase.{LegPhase}
use Rattle.table_model.specs.declared.phases.LegPhase.TheVariants as leg
use Rattle.table_model.specs.declared.phases.RunPhase.{RunPhase}
use Rattle.table_model.specs.declared.phases.RunPhase.TheVariants as run
use Rattle.table_model.specs.declared.sites.RuleSite.{RuleSite}
use Rattle.table_model.specs.declared.sites.RuleSite.TheVariants.{AtLeg, Closing, Whole}
use Rattle.table_model.proofs.Found.{each_of_append, each_of_flat_map, each_of_map, each_of_placed, none_found}
use Rattle.table_model.proofs.Optional.{each_passes}

-- ---- the legs of a job are few

planned_few_of : (o : Option RunState) (j : ℕ)
    → option_map_or (λ planned. length planned.legs) (option_and_then (λ (x : RunState). slice_get (plan_of x.admitted.body) j) o) 0 ≤ 256
planned_few_of None j = omega arith
planned_few_of (Some x) j =
    elim (slice_get (plan_of x.admitted.body) j) as
    (λ o. slice_get (plan_of x.admitted.body) j ≡ o → option_map_or (λ (planned : PlannedJob). length planned.legs) o 0 ≤ 256) [
      | None ↦ λ is. omega arith
      | Some planned ↦ λ is. few_planned x.admitted.body j planned is
    ] refl

planned_few : (runs : List RunState) (r j : ℕ) → planned_legs runs r j ≤ 256
planned_few runs r j = planned_few_of (run_at runs r) j

few_fit : (planned : ℕ) (gathered : JobResult) (phase : JobPhase) (legs : List LegState) → planned ≤ 256
    → LegsFit planned gathered phase legs → length legs ≤ 256
few_fit planned gathered job.Blocked legs few fits = let none : length legs ≡ 0 = ap length fits in omega (arith, none)
few_fit planned gathered job.Open legs few fits = omega (arith, fits, few)
few_fit planned gathered (job.Finished r) legs few (inl none) = let empty : length legs ≡ 0 = ap length none.0 in omega (arith, empty)
few_fit planned gathered (job.Finished r) legs few (inr all) = let same = all.0 in omega (arith, same, few)

pub legs_few : (t : TableState) → IsSound t → LegsAreFew t.runs
legs_few t s r j x at = few_fit (planned_legs t.runs r j) (result_at t.runs r j x) x.phase x.legs (planned_few t.runs r j)
    (s.jobs_fit r j x at)

-- ---- no leg is new

-- the leg at a place, with its run and its job
record LegFound (runs : List RunState) (p : LegSite) (x : LegState) : Type 0 where
  pub in_run : RunState
  pub in_job : JobState
  pub run_is : run_at runs p.run ≡ Some in_run
  pub job_is : slice_get in_run.jobs p.job ≡ Some in_job
  pub leg_is : slice_get in_job.legs p.leg ≡ Some x

leg_found : (runs : List RunState) (p : LegSite) (x : LegState) → leg_at runs p ≡ Some x → LegFound runs p x
leg_found runs p x at =
    elim (run_at runs p.run) as (λ o. run_at runs p.run ≡ o
    → option_and_then (λ (y : JobState). slice_get y.legs p.leg) (option_and_then (λ (z : RunState). slice_get z.jobs p.job) o) ≡ Some x
    → LegFound runs p x) [
      | None ↦ λ is e. cc
      | Some z ↦ λ is e. elim (slice_get z.jobs p.job) as (λ o. slice_get z.jobs p.job ≡ o
          → option_and_then (λ (y : JobState). slice_get y.legs p.leg) o ≡ Some x → LegFound runs p x) [
            | None ↦ λ js d. cc
            | Some y ↦ λ js d. record { in_run = z; in_job = y; run_is = is; job_is = js; leg_is = d }
          ] refl e
    ] refl at

-- if no rule applies at the places of a live run, none applies to a leg of it
rests_at : (runs : List RunState) (p : LegSite) (z : RunState) (y : JobState) (x : LegState) → first_site runs ≡ None
    → run_at runs p.run ≡ Some z
    → slice_get z.jobs p.job ≡ Some y → slice_get y.legs p.leg ≡ Some x → is_live z.phase ≡ true → applies runs (AtLeg p) ≡ false
rests_at runs p z y x none run_is job_is leg_is live =
    let Rests = λ (site : RuleSite). applies runs site ≡ false in
    let by_run = each_of_flat_map Rests run_sites (placed runs) (none_found (applies runs) (rule_sites runs) none) in
    let of_run = each_of_placed (λ e. AllByRecursion Rests (run_sites e)) runs p.run z by_run run_is in
    let jobs = (each_of_append Rests (if is_live z.phase then flat_map (job_sites p.run) (placed z.jobs) else [])
    (Whole p.run ∷ []) of_run).0 in
    let of_jobs = subst (λ b. AllByRecursion Rests (if b then flat_map (job_sites p.run) (placed z.jobs) else [])) live jobs in
    let by_job = each_of_flat_map Rests (job_sites p.run) (placed z.jobs) of_jobs in
    let of_job = each_of_placed (λ e. AllByRecursion Rests (job_sites p.run e)) z.jobs p.job y by_job job_is in
    let at = λ (l : ℕ × LegState). AtLeg (record { run = p.run; job = p.job; leg = l.0 }) in
    let legs = (each_of_append Rests (map at (placed y.legs)) (Closing p.run p.job ∷ []) of_job.1).0 in
    each_of_placed (λ e. Rests (at e)) y.legs p.leg x (each_of_map Rests at (placed y.legs) legs) leg_is

-- a rule applies to a new leg
new_goes_on : (runs : List RunState) (p : LegSite) (x : LegState) → leg_at runs p ≡ Some x → x.phase ≡ leg.New
    → applies runs (AtLeg p) ≡ true
new_goes_on runs p x at new =
    ap (λ o. is_some (option_and_then (leg_rule runs p) o)) at
    ∙ ap (λ phase. is_some (leg_rule_in phase runs p)) new

none_at : {X : Type 0} (xs : List X) (k : ℕ) (x : X) → xs ≡ [] → slice_get xs k ≡ Some x → ⊥
none_at [] k x none at = cc
none_at (y ∷ ys) k x none at = cc

-- a blocked job has no leg, and a finished one has no new leg
is_not_blocked : (planned : ℕ) (gathered : JobResult) (phase : JobPhase) (legs : List LegState) (l : ℕ) (x : LegState)
    → LegsFit planned gathered phase legs
    → slice_get legs l ≡ Some x → phase ≡ job.Blocked → ⊥
is_not_blocked planned gathered job.Blocked legs l x fits at is = none_at legs l x fits at
is_not_blocked planned gathered job.Open legs l x fits at is = cc
is_not_blocked planned gathered (job.Finished r) legs l x fits at is = cc

has_not_settled : (planned : ℕ) (gathered : JobResult) (phase : JobPhase) (legs : List LegState) (l : ℕ) (x : LegState)
    → LegsFit planned gathered phase legs
    → slice_get legs l ≡ Some x → x.phase ≡ leg.New → is_some (finished_result phase) ≡ true → ⊥
has_not_settled planned gathered job.Blocked legs l x fits at new is = cc
has_not_settled planned gathered job.Open legs l x fits at new is = cc
has_not_settled planned gathered (job.Finished r) legs l x (inl none) at new is = none_at legs l x none.0 at
has_not_settled planned gathered (job.Finished r) legs l x (inr all) at new is =
    let ended : is_some (outcome_of x.phase) ≡ true = each_passes leg_has_ended legs l x all.1 at in
    let not_ended : is_some (outcome_of x.phase) ≡ false = ap (λ phase. is_some (outcome_of phase)) new in
    cc

live_by_jobs : (phase : RunPhase) (stopping : Bool) (jobs : List JobState) (j : ℕ) (y : JobState) → PhaseFits phase stopping jobs
    → slice_get jobs j ≡ Some y
    → (y.phase ≡ job.Blocked → ⊥) → (is_finished y ≡ true → ⊥) → is_live phase ≡ true
live_by_jobs run.Waiting stopping jobs j y fits at not_blocked not_settled = absurd (not_blocked (fits.1 j y at))
live_by_jobs run.Live stopping jobs j y fits at not_blocked not_settled = refl
live_by_jobs run.Ended stopping jobs j y fits at not_blocked not_settled = absurd (not_settled (fits j y at))

-- so no leg is new
not_new : (t : TableState) → IsSound t → (p : LegSite) (x : LegState) → leg_at t.runs p ≡ Some x → x.phase ≡ leg.New → ⊥
not_new t s p x at new =
    let f = leg_found t.runs p x at in
    let y = f.in_job in
    let job_is : job_at t.runs p.run p.job ≡ Some y = ap (option_and_then (λ (z : RunState). slice_get z.jobs p.job)) f.run_is ∙ f.job_is in
    let fits = s.jobs_fit p.run p.job y job_is in
    let planned = planned_legs t.runs p.run p.job in
    let gathered = result_at t.runs p.run p.job y in
    let live = live_by_jobs f.in_run.phase f.in_run.stopping f.in_run.jobs p.job y (s.run_phases_fit p.run f.in_run f.run_is) f.job_is
    (is_not_blocked planned gathered y.phase y.legs p.leg x fits f.leg_is)
    (has_not_settled planned gathered y.phase y.legs p.leg x fits f.leg_is new) in
    let rests = rests_at t.runs p f.in_run y x s.no_rule_applies f.run_is f.job_is f.leg_is live in
    let goes_on = new_goes_on t.runs p x at new in
    cc

by_phase : (phase : LegPhase) → (phase ≡ leg.New → ⊥) → is_new phase ≡ false
by_phase leg.New other = absurd (other refl)
by_phase leg.Waiting other = refl
by_phase leg.Ready other = refl
by_phase leg.Running other = refl
by_phase leg.Stopping other = refl
by_phase (leg.Ended r) other = refl

pub storable : (t : TableState) → IsSound t → IsStorable t.runs
storable t s = record {
  few_runs = s.few_runs;
  attempts_are_given = s.attempts_are_given;
  jobs_are_the_plans = s.jobs_are_the_plans;
  legs_are_few = legs_few t s;
  no_leg_is_new = (λ p x at. by_phase x.phase (not_new t s p x at));
}

-- Each settling rule lowers the number of phases that remain.
use Rattle.std.specs.Prelude.{◌≡◌, ℕ, zero, suc, ◌+◌, ◌*◌, ◌<◌, List, [], ◌∷◌, length, sum_by, Bool, true, false, Some}
use Rattle.std.specs.Prelude.{option_and_then, slice_get, if◌then◌else◌}
use Rattle.std.specs.List.{enumerate_from, list_all}
use Rattle.std.specs.Option.{option_map_or}
use Rattle.std.proofs.Common.{arith, ap, subst, sym, ◌∙◌, lit<}
use Rattle.std.proofs.lemmas.Bool.{and_parts}
use Rattle.std.proofs.lemmas.List.Sums.{sum_by-cons}
use Rattle.std.proofs.lemmas.List.Folds.{sum_by-replicate}
use Rattle.wf_value.specs.declared.outcome.JobResult.TheVariants as result
use Rattle.wf_value.specs.declared.outcome.Outcome.TheVariants as outcome
use Rattle.run_plan.specs.PlanOf.{plan_of}
use Rattle.run_plan.specs.declared.planned.PlannedJob.{PlannedJob}
use Rattle.table_model.specs.Runs.{changed_at, run_at, job_at, leg_at, with_run, with_job, LegState, JobState, RunState, finished_as}
use Rattle.table_model.specs.GroupLaw.{Transition}
use Rattle.table_model.specs.declared.sites.LegSite.{LegSite}
use Rattle.table_model.specs.Settling.{decided, may_run, result_at, rule_at, with_leg_in, run_phases_left, run_left, remaining_phases}
use Rattle.table_model.specs.Settling.{first_site, first_rule, leg_phases_left, leg_left, job_phases_left, job_left, legs_in_plan}
use Rattle.table_model.specs.Runs.{leg_has_ended, is_blocked, is_done, is_open, leg_in_phase, new_leg, opened, run_in_phase}
use Rattle.table_model.specs.LegContext.{is_stopping, planned_legs}
use Rattle.table_model.specs.declared.phases.JobPhase.TheVariants as job
use Rattle.table_model.specs.declared.phases.LegPhase.{LegPhase}
use Rattle.table_model.specs.declared.phases.LegPhase.TheVariants as leg
use Rattle.table_model.specs.declared.phases.RunPhase.{RunPhase}
use Rattle.table_model.specs.declared.phases.RunPhase.TheVariants as run
use Rattle.table_model.specs.declared.sites.RuleSite.{RuleSite}
use Rattle.table_model.proofs.JobKeeps.{JobIn, job_in, leg_in, with_job_of, with_leg_of}
use Rattle.table_model.proofs.JobPhases.{is_blocked_blocked, is_open_open}
use Rattle.table_model.proofs.Optional.{from_and_then}
use Rattle.settling_laws.proofs.EachRule.{EachRule, by_rule}
use Rattle.settling_laws.proofs.StopsLower.{arrival_lowers}
use Rattle.table_model.specs.declared.holder.Holder.TheVariants.{Leg}

-- ---- sums over a list that is changed at one index

pub sum_of_changed : {X : Type 0} (f : X → ℕ) (xs : List X) (i : ℕ) (g : X → X) (x : X) → slice_get xs i ≡ Some x
    → sum_by f (changed_at i g xs) + f x ≡ sum_by f xs + f (g x)
sum_of_changed f [] i g x h = cc
sum_of_changed f (z ∷ zs) zero g x h =
    let same : z ≡ x = cc in
    let at_old : f z ≡ f x = ap f same in
    let at_new : f (g z) ≡ f (g x) = ap (λ v. f (g v)) same in
    let new = sum_by-cons f (g z) zs in
    let old = sum_by-cons f z zs in
    omega (arith, at_old, at_new, new, old)
sum_of_changed f (z ∷ zs) (suc i) g x h =
    let tail = sum_of_changed f zs i g x h in
    let new = sum_by-cons f z (changed_at i g zs) in
    let old = sum_by-cons f z zs in
    omega (arith, tail, new, old)

sum_of_placed : {X : Type 0} (f : ℕ → X → ℕ) (xs : List X) (n i : ℕ) (g : X → X) (x : X) → slice_get xs i ≡ Some x
    → sum_by (λ e. f e.0 e.1) (enumerate_from n (changed_at i g xs)) + f (n + i) x
    ≡ sum_by (λ e. f e.0 e.1) (enumerate_from n xs) + f (n + i) (g x)
sum_of_placed f [] n i g x h = cc
sum_of_placed {X} f (z ∷ zs) n zero g x h =
    let sum : ℕ × X → ℕ = λ e. f e.0 e.1 in
    let same : z ≡ x = cc in
    let at : n + 0 ≡ n = omega arith in
    let old : f (n + 0) x ≡ f n z = ap (λ m. f m x) at ∙ ap (f n) (sym same) in
    let new : f (n + 0) (g x) ≡ f n (g z) = ap (λ m. f m (g x)) at ∙ ap (λ v. f n (g v)) (sym same) in
    let sum_new = sum_by-cons sum (n, g z) (enumerate_from (n + 1) zs) in
    let sum_old = sum_by-cons sum (n, z) (enumerate_from (n + 1) zs) in
    omega (arith, old, new, sum_new, sum_old)
sum_of_placed {X} f (z ∷ zs) n (suc i) g x h =
    let sum : ℕ × X → ℕ = λ e. f e.0 e.1 in
    let later : n + suc i ≡ (n + 1) + i = omega arith in
    let old : f (n + suc i) x ≡ f ((n + 1) + i) x = ap (λ m. f m x) later in
    let new : f (n + suc i) (g x) ≡ f ((n + 1) + i) (g x) = ap (λ m. f m (g x)) later in
    let sum_new = sum_by-cons sum (n, z) (enumerate_from (n + 1) (changed_at i g zs)) in
    let sum_old = sum_by-cons sum (n, z) (enumerate_from (n + 1) zs) in
    let tail = sum_of_placed f zs (n + 1) i g x h in
    omega (arith, old, new, sum_new, sum_old, tail)

-- ---- from a leg to its job, from a job to its run, from a run to the runs

leg_lowers : (planned : ℕ) (y : JobState) (l : ℕ) (f : LegState → LegState) (z : LegState) → slice_get y.legs l ≡ Some z
    → leg_left (f z) < leg_left z → job_left planned (with_leg_of l f y) < job_left planned y
leg_lowers planned y l f z was less =
    let sum = sum_of_changed leg_left y.legs l f z was in
    omega (arith, sum, less)

job_lowers : (x : RunState) (j : ℕ) (f : JobState → JobState) (y : JobState) → slice_get x.jobs j ≡ Some y
    → job_left (legs_in_plan (plan_of x.admitted.body) j) (f y) < job_left (legs_in_plan (plan_of x.admitted.body) j) y
    → run_left (with_job_of j f x) < run_left x
job_lowers x j f y was less =
    let count : ℕ → JobState → ℕ = λ k v. job_left (legs_in_plan (plan_of x.admitted.body) k) v in
    let sum = sum_of_placed count x.jobs 0 j f y was in
    let at : 0 + j ≡ j = omega arith in
    let old : count (0 + j) y ≡ count j y = ap (λ m. count m y) at in
    let new : count (0 + j) (f y) ≡ count j (f y) = ap (λ m. count m (f y)) at in
    omega (arith, sum, old, new, less)

run_lowers : (runs : List RunState) (r : ℕ) (f : RunState → RunState) (x : RunState) → run_at runs r ≡ Some x → run_left (f x) < run_left x
    → remaining_phases (with_run r f runs) < remaining_phases runs
run_lowers runs r f x was less =
    let sum = sum_of_changed run_left runs r f x was in
    omega (arith, sum, less)

-- the number of planned legs, by the table and by the run
planned_in_run : (runs : List RunState) (r j : ℕ) (x : RunState) → run_at runs r ≡ Some x
    → planned_legs runs r j ≡ legs_in_plan (plan_of x.admitted.body) j
planned_in_run runs r j x e =
    ap (λ o. option_map_or (λ (planned : PlannedJob). length planned.legs)
    (option_and_then (λ (run : RunState). slice_get (plan_of run.admitted.body) j) o) 0) e

job_lowers_all : (runs : List RunState) (r j : ℕ) (f : JobState → JobState) (y : JobState) → JobIn runs r j y
    → job_left (planned_legs runs r j) (f y) < job_left (planned_legs runs r j) y → remaining_phases (with_job r j f runs) < remaining_phases runs
job_lowers_all runs r j f y at less =
    let less_in_run = subst (λ (n : ℕ). job_left n (f y) < job_left n y) (planned_in_run runs r j at.run at.run_is) less in
    run_lowers runs r (with_job_of j f) at.run at.run_is (job_lowers at.run j f y at.job_is less_in_run)

-- ---- the rules

leg_goes_lower : (runs : List RunState) (p : LegSite) (z : LegState) (to : LegPhase) → leg_at runs p ≡ Some z
    → leg_phases_left to < leg_phases_left z.phase → remaining_phases (with_leg_in to p runs) < remaining_phases runs
leg_goes_lower runs p z to was lower =
    let at = leg_in runs p z was in
    let less = leg_lowers (planned_legs runs p.run p.job) at.job p.leg (leg_in_phase to) z at.leg_is lower in
    job_lowers_all runs p.run p.job (with_leg_of p.leg (leg_in_phase to)) at.job at.place less

left_by : (phase is : LegPhase) (to : ℕ) → phase ≡ is → to < leg_phases_left is → to < leg_phases_left phase
left_by phase is to e less = subst (λ (v : LegPhase). to < leg_phases_left v) (sym e) less

decided_lowered : (may : Bool) (planned : ℕ) (stopping : Bool) (y : JobState) → y.phase ≡ job.Blocked
    → job_left planned ((if may then opened planned else finished_as (if stopping then result.Cancelled else result.Skipped)) y)
    < job_left planned y
decided_lowered true planned stopping y blocked =
    let before : job_phases_left planned y.phase ≡ 2 + 5 * planned = ap (job_phases_left planned) blocked in
    omega (arith, before, sum_by-replicate leg_left planned new_leg)
decided_lowered false planned stopping y blocked =
    let before : job_phases_left planned y.phase ≡ 2 + 5 * planned = ap (job_phases_left planned) blocked in
    omega (arith, before)

opening_lowers : (runs : List RunState) (r j : ℕ) (y : JobState) → job_at runs r j ≡ Some y → is_blocked y.phase ≡ true
    → remaining_phases (with_job r j (decided runs r j) runs) < remaining_phases runs
opening_lowers runs r j y was blocked =
    job_lowers_all runs r j (decided runs r j) y (job_in runs r j y was)
    (decided_lowered (may_run runs r j) (planned_legs runs r j) (is_stopping runs r) y (is_blocked_blocked y.phase blocked))

closing_lowers : (runs : List RunState) (r j : ℕ) (y : JobState) → job_at runs r j ≡ Some y → is_done y ≡ true
    → remaining_phases (with_job r j (finished_as (result_at runs r j y)) runs) < remaining_phases runs
closing_lowers runs r j y was done =
    let close = finished_as (result_at runs r j y) in
    let is_open = is_open_open y.phase (and_parts (is_open y.phase) (list_all leg_has_ended y.legs) done).0 in
    let before : job_phases_left (planned_legs runs r j) y.phase ≡ 1 = ap (job_phases_left (planned_legs runs r j)) is_open in
    let less : job_left (planned_legs runs r j) (close y) < job_left (planned_legs runs r j) y = omega (arith, before) in
    job_lowers_all runs r j close y (job_in runs r j y was) less

run_goes_lower : (runs : List RunState) (r : ℕ) (x : RunState) (to : RunPhase) → run_at runs r ≡ Some x
    → run_phases_left to < run_phases_left x.phase → remaining_phases (with_run r (run_in_phase to) runs) < remaining_phases runs
run_goes_lower runs r x to was lower =
    let less : run_left (run_in_phase to x) < run_left x = omega (arith, lower) in
    run_lowers runs r (run_in_phase to) x was less

run_left_by : (phase is : RunPhase) (to : ℕ) → phase ≡ is → to < run_phases_left is → to < run_phases_left phase
run_left_by phase is to e less = subst (λ (v : RunPhase). to < run_phases_left v) (sym e) less

each_lowers : (runs : List RunState) → EachRule runs (λ site m. remaining_phases m.runs < remaining_phases runs)
each_lowers runs = record {
  job_opens = (λ r j y was blocked settled. opening_lowers runs r j y was blocked);
  leg_is_cancelled = (λ p z was is. leg_goes_lower runs p z (leg.Ended outcome.Cancelled) was (left_by z.phase leg.New 0 is (lit< tt)));
  leg_arrives = (λ p z was is.
      let waits = leg_goes_lower runs p z leg.Waiting was (left_by z.phase leg.New 4 is (lit< tt)) in
      let rest = arrival_lowers (Leg p) (with_leg_in leg.Waiting p runs) in
      omega (arith, waits, rest));
  leg_starts = (λ p z was is may. leg_goes_lower runs p z leg.Ready was (left_by z.phase leg.Waiting 3 is (lit< tt)));
  job_settles = (λ r j y was done. closing_lowers runs r j y was done);
  run_starts = (λ r x was is may. run_goes_lower runs r x run.Live was (run_left_by x.phase run.Waiting 1 is (lit< tt)));
  run_ends = (λ r x was is all. run_goes_lower runs r x run.Ended was (run_left_by x.phase run.Live 0 is (lit< tt)));
}

rule_lowers : (runs : List RunState) (m : Transition) (site : RuleSite) → rule_at runs site ≡ Some m → remaining_phases m.runs < remaining_phases runs
rule_lowers runs m site h = by_rule runs (λ at made. remaining_phases made.runs < remaining_phases runs) (each_lowers runs) m site h

pub first_rule_lowers : (runs : List RunState) (m : Transition) → first_rule runs ≡ Some m → remaining_phases m.runs < remaining_phases runs
first_rule_lowers runs m h =
    let made = from_and_then (rule_at runs) (first_site runs) m h in
    rule_lowers runs m made.value made.gives

-- The first site of a table where a rule applies, found run by run and job by job.
use Rattle.std.specs.Prelude.{◌≡◌, ℕ, ◌&&◌, List, [], ◌∷◌, ◌++◌, map, flat_map, find, Bool, true, false, is_some, Some, None}
use Rattle.std.specs.Prelude.{option_and_then, slice_get, if◌then◌else◌, refl}
use Rattle.std.specs.List.{list_all}
use Rattle.std.specs.Option.{option_or}
use Rattle.std.proofs.Common.{ap, ◌∙◌}
use Rattle.std.proofs.lemmas.List.Folds.{find-append}
use Rattle.table_model.specs.Runs.{first_some, placed, job_at, leg_at, LegState, JobState, RunState}
use Rattle.table_model.specs.Groups.{may_start}
use Rattle.table_model.specs.declared.sites.LegSite.{LegSite}
use Rattle.table_model.specs.Settling.{job_sites, run_sites, opening_rule, leg_rule, leg_rule_in, closing_rule, whole_rule, whole_rule_in}
use Rattle.table_model.specs.Settling.{applies, first_site}
use Rattle.table_model.specs.Runs.{is_live, is_blocked, is_done, is_finished}
use Rattle.table_model.specs.inner.WithinRun.{goes_on, goes_on_in, first_in_job, first_in_jobs, first_in_run, first_of_legs, leg_site}
use Rattle.table_model.specs.inner.WithinRun.{needs_finished_in, whole_goes_on_in}
use Rattle.table_model.specs.LegContext.{needs_have_finished}
use Rattle.table_model.specs.declared.phases.LegPhase.{LegPhase}
use Rattle.table_model.specs.declared.phases.LegPhase.TheVariants as leg
use Rattle.table_model.specs.declared.phases.RunPhase.{RunPhase}
use Rattle.table_model.specs.declared.phases.RunPhase.TheVariants as run
use Rattle.table_model.specs.declared.sites.RuleSite.TheVariants.{Opening, AtLeg, Closing, Whole}
use Rattle.table_model.proofs.NeedsSettled.{needs_by_run}
use Rattle.settling_laws.proofs.Firsts.{find-flat_map, find-map, first_same_placed}
use Rattle.table_model.specs.declared.holder.Holder.TheVariants.{Run, Leg}

-- ---- whether the rule at a site applies, from the element there

some_if : {X : Type 0} (b : Bool) (x : X) → is_some (if b then Some x else None) ≡ b
some_if true x = refl
some_if false x = refl

pub job_found : (runs : List RunState) (r j : ℕ) (run : RunState) (job : JobState) → slice_get runs r ≡ Some run
    → slice_get run.jobs j ≡ Some job → job_at runs r j ≡ Some job
job_found runs r j run job at_run at_job = ap (option_and_then (λ x. slice_get x.jobs j)) at_run ∙ at_job

opening_applies : (runs : List RunState) (r j : ℕ) (run : RunState) (job : JobState) → slice_get runs r ≡ Some run
    → job_at runs r j ≡ Some job → applies runs (Opening r j) ≡ (is_blocked job.phase && needs_finished_in run j)
opening_applies runs r j run job at_run at =
    ap (λ o. is_some (option_and_then (opening_rule runs r j) o)) at ∙ some_if (is_blocked job.phase && needs_have_finished runs r j) _
    ∙ ap (λ b. is_blocked job.phase && b) (needs_by_run runs r j run at_run)

leg_rule_applies : (phase : LegPhase) (runs : List RunState) (p : LegSite) → is_some (leg_rule_in phase runs p) ≡ goes_on_in phase runs p
leg_rule_applies leg.New runs p = refl
leg_rule_applies leg.Waiting runs p = some_if (may_start runs (Leg p)) _
leg_rule_applies leg.Ready runs p = refl
leg_rule_applies leg.Running runs p = refl
leg_rule_applies leg.Stopping runs p = refl
leg_rule_applies (leg.Ended r) runs p = refl

leg_applies : (runs : List RunState) (p : LegSite) (l : LegState) → leg_at runs p ≡ Some l → applies runs (AtLeg p) ≡ goes_on runs p l
leg_applies runs p l at = ap (λ o. is_some (option_and_then (leg_rule runs p) o)) at ∙ leg_rule_applies l.phase runs p

closing_applies : (runs : List RunState) (r j : ℕ) (job : JobState) → job_at runs r j ≡ Some job → applies runs (Closing r j) ≡ is_done job
closing_applies runs r j job at = ap (λ o. is_some (option_and_then (closing_rule runs r j) o)) at ∙ some_if (is_done job) _

whole_rule_applies : (phase : RunPhase) (runs : List RunState) (r : ℕ) (x : RunState)
    → is_some (whole_rule_in phase runs r x) ≡ whole_goes_on_in phase runs r x
whole_rule_applies run.Waiting runs r x = some_if (may_start runs (Run r)) _
whole_rule_applies run.Live runs r x = some_if (list_all is_finished x.jobs) _
whole_rule_applies run.Ended runs r x = refl

whole_applies : (runs : List RunState) (r : ℕ) (x : RunState) → slice_get runs r ≡ Some x
    → applies runs (Whole r) ≡ whole_goes_on_in x.phase runs r x
whole_applies runs r x at =
    ap (λ o. is_some (option_and_then (whole_rule runs r) o)) at ∙ whole_rule_applies x.phase runs r x

-- ---- within a job

at_legs : (runs : List RunState) (r j : ℕ) (run : RunState) (job : JobState) → slice_get runs r ≡ Some run → slice_get run.jobs j ≡ Some job
    → find (applies runs) (map (λ l. AtLeg (leg_site r j l.0)) (placed job.legs)) ≡ first_of_legs runs r j job.legs
at_legs runs r j run job at_run at_job =
    find-map (applies runs) (λ (l : ℕ × LegState). AtLeg (leg_site r j l.0)) (placed job.legs)
    ∙ first_same_placed (λ l. if applies runs (AtLeg (leg_site r j l.0)) then Some (AtLeg (leg_site r j l.0)) else None)
    (λ l. if goes_on runs (leg_site r j l.0) l.1 then Some (AtLeg (leg_site r j l.0)) else None) job.legs
    (λ l leg at. ap (λ b. if b then Some (AtLeg (leg_site r j l)) else None)
    (leg_applies runs (leg_site r j l) leg
    (ap (option_and_then (λ x. slice_get x.legs l)) (job_found runs r j run job at_run at_job) ∙ at)))

in_job : (runs : List RunState) (r j : ℕ) (run : RunState) (job : JobState) → slice_get runs r ≡ Some run → slice_get run.jobs j ≡ Some job
    → find (applies runs) (job_sites r (j, job)) ≡ first_in_job runs r run j job
in_job runs r j run job at_run at_job =
    let at = job_found runs r j run job at_run at_job in
    let legs = map (λ l. AtLeg (leg_site r j l.0)) (placed job.legs) in
    ap (λ b. if b then Some (Opening r j) else find (applies runs) (legs ++ Closing r j ∷ [])) (opening_applies runs r j run job at_run at)
    ∙ ap (λ o. if is_blocked job.phase && needs_finished_in run j then Some (Opening r j) else o)
    (find-append (applies runs) legs (Closing r j ∷ [])
    ∙ ap (λ o. option_or o (find (applies runs) (Closing r j ∷ []))) (at_legs runs r j run job at_run at_job)
    ∙ ap (λ b. option_or (first_of_legs runs r j job.legs) (if b then Some (Closing r j) else None))
    (closing_applies runs r j job at))

-- ---- within a run

in_jobs : (runs : List RunState) (r : ℕ) (run : RunState) → slice_get runs r ≡ Some run
    → find (applies runs) (flat_map (job_sites r) (placed run.jobs)) ≡ first_in_jobs runs r run run.jobs
in_jobs runs r run at =
    find-flat_map (applies runs) (job_sites r) (placed run.jobs)
    ∙ first_same_placed (λ j. find (applies runs) (job_sites r j)) (λ j. first_in_job runs r run j.0 j.1) run.jobs
    (λ j job at_job. in_job runs r j run job at at_job)

jobs_if_live : (runs : List RunState) (r : ℕ) (run : RunState) (live : Bool) → slice_get runs r ≡ Some run
    → find (applies runs) (if live then flat_map (job_sites r) (placed run.jobs) else [])
    ≡ (if live then first_in_jobs runs r run run.jobs else None)
jobs_if_live runs r run true at = in_jobs runs r run at
jobs_if_live runs r run false at = refl

in_run : (runs : List RunState) (r : ℕ) (run : RunState) → slice_get runs r ≡ Some run
    → find (applies runs) (run_sites (r, run)) ≡ first_in_run runs r run
in_run runs r run at =
    find-append (applies runs) (if is_live run.phase then flat_map (job_sites r) (placed run.jobs) else []) (Whole r ∷ [])
    ∙ ap (λ o. option_or o (find (applies runs) (Whole r ∷ []))) (jobs_if_live runs r run (is_live run.phase) at)
    ∙ ap (λ b. option_or (if is_live run.phase then first_in_jobs runs r run run.jobs else None) (if b then Some (Whole r) else None))
    (whole_applies runs r run at)

-- ---- in the whole table

-- the first site where a rule applies is that of the first run that has one
pub first_place_by_run : (runs : List RunState) → first_site runs ≡ first_some (λ r. first_in_run runs r.0 r.1) (placed runs)
first_place_by_run runs =
    find-flat_map (applies runs) run_sites (placed runs)
    ∙ first_same_placed (λ r. find (applies runs) (run_sites r)) (λ r. first_in_run runs r.0 r.1) runs (λ r run at. in_run runs r run at)

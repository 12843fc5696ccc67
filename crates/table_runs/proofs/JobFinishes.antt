-- A job that finishes at the first place where a rule applies changes no holder of a group.
use Rattle.std.specs.Prelude.{◌≡◌, ◌<◌, ℕ, List, length, Bool, false, Some, slice_get, if◌then◌else◌}
use Rattle.std.proofs.Common.{subst}
use Rattle.std.proofs.lemmas.Option.{slice_get_within}
use Rattle.wf_value.specs.declared.outcome.JobResult.{JobResult}
use Rattle.wf_value.specs.declared.outcome.JobResult.TheVariants as result
use Rattle.table_model.specs.Runs.{job_at, run_at, with_job, JobState, RunState, finished_as}
use Rattle.table_model.specs.Settling.{may_run, result_at, first_site}
use Rattle.table_model.specs.Sound.{RunsAreSound}
use Rattle.table_model.specs.LegContext.{is_stopping}
use Rattle.table_model.specs.declared.sites.RuleSite.TheVariants.{Closing, Opening}
use Rattle.table_model.proofs.JobKeeps.{with_job_of}
use Rattle.table_model.proofs.Optional.{from_and_then}
use Rattle.table_model.proofs.RunFits.{RunsFit}
use Rattle.table_model.proofs.Settles.{StayFit}
use Rattle.settling_laws.proofs.SoundRuns.{runs_that_fit}
use Rattle.table_runs.specs.inner.HolderChanges.{ChangesNobody}
use Rattle.table_runs.proofs.FirstRules.{closes, finishes_where, opens}
use Rattle.table_runs.proofs.OneChange.{changes_nobody, settled_adds, settled_keeps}

nobody : (runs : List RunState) (r j : ℕ) (s : JobResult) → RunsFit runs → StayFit runs (with_job r j (finished_as s) runs)
    → ChangesNobody runs (with_job r j (finished_as s) runs)
nobody runs r j s fit stay = changes_nobody runs r (with_job_of j (finished_as s)) (settled_keeps s j) fit stay (settled_adds s j)

pub job_within : (runs : List RunState) (r j : ℕ) (y : JobState) → job_at runs r j ≡ Some y → r < length runs
job_within runs r j y at =
    let run = from_and_then (λ (x : RunState). slice_get x.jobs j) (run_at runs r) y at in slice_get_within runs r run.value run.is

pub opening_within : (runs : List RunState) (r j : ℕ) → RunsAreSound runs → first_site runs ≡ Some (Opening r j) → r < length runs
opening_within runs r j sound first = let so = opens runs r j (runs_that_fit runs sound) first in job_within runs r j so.job so.there

-- its condition does not hold
pub finishes_nobody : (runs : List RunState) (r j : ℕ) (b : Bool) (s : JobResult) → RunsAreSound runs → first_site runs ≡ Some (Opening r j)
    → may_run runs r j ≡ false → is_stopping runs r ≡ b → (if b then result.Cancelled else result.Skipped) ≡ s
    → ChangesNobody runs (with_job r j (finished_as s) runs)
finishes_nobody runs r j b s sound first may stopping is =
    let fit = runs_that_fit runs sound in
    let so = opens runs r j fit first in
    nobody runs r j s fit
    (subst (λ (k : JobResult). StayFit runs (with_job r j (finished_as k) runs)) is
    (subst (StayFit runs) (finishes_where runs r j b may stopping) so.settles.stay))

-- its legs have ended
pub closes_nobody : (runs : List RunState) (r j : ℕ) (y : JobState) (s : JobResult) → RunsAreSound runs → first_site runs ≡ Some (Closing r j)
    → job_at runs r j ≡ Some y → result_at runs r j y ≡ s → ChangesNobody runs (with_job r j (finished_as s) runs)
closes_nobody runs r j y s sound first at is =
    let fit = runs_that_fit runs sound in
    nobody runs r j s fit
    (subst (λ (k : JobResult). StayFit runs (with_job r j (finished_as k) runs)) is (closes runs r j y fit first at).stay)

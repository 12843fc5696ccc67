-- A property of the sites of all legs holds of each of them.
use Rattle.std.specs.Prelude.{◌≡◌, ℕ, List, Some}
use Rattle.std.specs.List.{AllByRecursion}
use Rattle.table_model.specs.Runs.{placed, leg_at, leg_sites, leg_sites_of_job, leg_sites_of_run, LegState, JobState, RunState}
use Rattle.table_model.specs.declared.sites.LegSite.{LegSite}
use Rattle.table_model.proofs.Found.{each_of_flat_map, each_of_map, each_of_placed}
use Rattle.table_model.proofs.JobKeeps.{leg_in}

pub each_leg_place : (P : LegSite → Type 0) (runs : List RunState) (p : LegSite) (z : LegState) → AllByRecursion P (leg_sites runs)
    → leg_at runs p ≡ Some z → P p
each_leg_place P runs p z all e =
    let at = leg_in runs p z e in
    let of_runs = each_of_flat_map P leg_sites_of_run (placed runs) all in
    let of_run = each_of_placed
    (λ (x : ℕ × RunState). AllByRecursion P (leg_sites_of_run x)) runs p.run at.place.run of_runs at.place.run_is in
    let of_jobs = each_of_flat_map P (leg_sites_of_job p.run) (placed at.place.run.jobs) of_run in
    let of_job = each_of_placed
    (λ (y : ℕ × JobState). AllByRecursion P (leg_sites_of_job p.run y)) at.place.run.jobs p.job at.job of_jobs at.place.job_is in
    let of_legs = each_of_map P (λ (l : ℕ × LegState). record { run = p.run; job = p.job; leg = l.0 }) (placed at.job.legs) of_job in
    each_of_placed (λ (l : ℕ × LegState). P (record { run = p.run; job = p.job; leg = l.0 })) at.job.legs p.leg z of_legs at.leg_is

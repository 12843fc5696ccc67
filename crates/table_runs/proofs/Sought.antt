-- The first leg that fits, and the leg with a lease, found run by run and job by job.
use Rattle.std.specs.Prelude.{◌≡◌, ℕ, ◌&&◌, List, find, [], ◌∷◌, Bool, true, false, Option, Some, None, slice_get}
use Rattle.std.specs.Prelude.{if◌then◌else◌, refl}
use Rattle.std.specs.Option.{option_map_or}
use Rattle.std.proofs.Common.{ap, sym, ◌∙◌}
use Rattle.table_model.specs.Runs.{first_some, placed, leg_at, leg_sites_of_job, leg_sites_of_run, LegState, JobState, RunState}
use Rattle.table_model.specs.Fitting.{is_ready, is_served, may_run_too, fits, first_fit, has_lease, site_of_lease, has_room}
use Rattle.table_model.specs.inner.PlacedLegs.{PlacedLeg, placed_legs_of_run}
use Rattle.table_model.specs.declared.sites.LegSite.{LegSite}
use Rattle.table_model.specs.inner.WithinRun.{leg_site, fit_in_job, fit_in_jobs, lease_in_run}
use Rattle.settling_laws.proofs.Firsts.{find-flat_map, find-map, first_same_placed, first_some_same}
use Rattle.settling_laws.proofs.PlacedLegs.{each_in_run, leg_there, sites_of_run}
use Rattle.settling_laws.proofs.Walks.{job_found}

-- ---- the leg with a lease

pub site_of_lease_by_run : (runs : List RunState) (lease : ℕ)
    → site_of_lease runs lease ≡ first_some (λ r. lease_in_run lease r.0 r.1) (placed runs)
site_of_lease_by_run runs lease =
    let test : LegSite → Bool = λ p. option_map_or (has_lease lease) (leg_at runs p) false in
    let sought : PlacedLeg → Option LegSite = λ x. if test x.site then Some x.site else None in
    let leased : PlacedLeg → Option LegSite = λ x. if has_lease lease x.leg then Some x.site else None in
    find-flat_map test leg_sites_of_run (placed runs)
    ∙ first_same_placed (λ r. find test (leg_sites_of_run r)) (λ r. lease_in_run lease r.0 r.1) runs
    (λ r run at_run.
    ap (find test) (sym (sites_of_run (r, run))) ∙ find-map test (λ (x : PlacedLeg). x.site) (placed_legs_of_run (r, run))
    ∙ first_some_same sought leased (placed_legs_of_run (r, run))
    (each_in_run (λ x. sought x ≡ leased x) r run
    (λ j l job leg at_job at_leg.
    ap (λ o. if option_map_or (has_lease lease) o false then Some (leg_site r j l) else None)
    (leg_there runs r j run job at_run at_job l leg at_leg))))

-- ---- the first leg that fits

-- whether a leg is ready and served
abbrev pub serves : List (List ℕ) → List RunState → LegSite → LegState → Bool
serves labels runs p leg = is_ready leg.phase && is_served labels runs p

-- a leg fits where its job has room, and else none of the job does
room_or_none : (room ready served : Bool) (p : LegSite)
    → (if ready && (room && served) then Some p else None) ≡ (if room then (if ready && served then Some p else None) else None)
room_or_none true ready served p = refl
room_or_none false true served p = refl
room_or_none false false served p = refl

-- without room, no leg is found
requested_with_room : (room : Bool) (f : ℕ × LegState → Option LegSite) (xs : List (ℕ × LegState))
    → first_some (λ l. if room then f l else None) xs ≡ (if room then first_some f xs else None)
requested_with_room true f xs = refl
requested_with_room false f [] = refl
requested_with_room false f (x ∷ xs) = requested_with_room false f xs

fits_there : (runs : List RunState) (labels : List (List ℕ)) (r j : ℕ) (run : RunState) (job : JobState) → slice_get runs r ≡ Some run
    → slice_get run.jobs j ≡ Some job → find (fits labels runs) (leg_sites_of_job r (j, job)) ≡ fit_in_job labels runs r j job
fits_there runs labels r j run job at_run at_job =
    let served : ℕ × LegState → Option LegSite =
    λ l. if is_ready l.1.phase && is_served labels runs (leg_site r j l.0) then Some (leg_site r j l.0) else None in
    find-map (fits labels runs) (λ (l : ℕ × LegState). leg_site r j l.0) (placed job.legs)
    ∙ first_same_placed (λ l. if fits labels runs (leg_site r j l.0) then Some (leg_site r j l.0) else None)
    (λ l. if has_room runs r j job then served l else None) job.legs
    (λ l leg at. ap (λ o. if option_map_or (λ x. is_ready x.phase) o false
    && (may_run_too runs (leg_site r j l) && is_served labels runs (leg_site r j l))
    then Some (leg_site r j l) else None) (leg_there runs r j run job at_run at_job l leg at)
    ∙ ap (λ o. if is_ready leg.phase && (option_map_or (has_room runs r j) o false && is_served labels runs (leg_site r j l))
    then Some (leg_site r j l) else None) (job_found runs r j run job at_run at_job)
    ∙ room_or_none (has_room runs r j job) (is_ready leg.phase) (is_served labels runs (leg_site r j l)) (leg_site r j l))
    ∙ requested_with_room (has_room runs r j job) served (placed job.legs)

pub first_fit_by_run : (labels : List (List ℕ)) (runs : List RunState)
    → first_fit labels runs ≡ first_some (λ r. fit_in_jobs labels runs r.0 r.1.jobs) (placed runs)
first_fit_by_run labels runs =
    find-flat_map (fits labels runs) leg_sites_of_run (placed runs)
    ∙ first_same_placed (λ r. find (fits labels runs) (leg_sites_of_run r)) (λ r. fit_in_jobs labels runs r.0 r.1.jobs) runs
    (λ r run at_run. find-flat_map (fits labels runs) (leg_sites_of_job r) (placed run.jobs)
    ∙ first_same_placed (λ j. find (fits labels runs) (leg_sites_of_job r j)) (λ j. fit_in_job labels runs r j.0 j.1) run.jobs
    (λ j job at_job. fits_there runs labels r j run job at_run at_job))

-- The first site where a rule applies, and the first leg that a search finds, run by run and job by job. Whether a rule applies depends on
-- other runs only for a waiting run and for a waiting leg, which need a group without a holder in progress.
use Rattle.std.specs.Prelude.{ℕ, ◌&&◌, List, Bool, true, false, Option, Some, None, if◌then◌else◌}
use Rattle.std.specs.List.{list_all}
use Rattle.std.specs.Option.{option_or, option_map_or}
use Rattle.table_model.specs.Runs.{placed, first_some, LegState, JobState, RunState, is_live, is_blocked, is_done, is_finished}
use Rattle.table_model.specs.Groups.{may_start}
pub use Rattle.table_model.specs.Runs.{leg_site}
use Rattle.table_model.specs.declared.sites.LegSite.{LegSite}
pub use Rattle.table_model.specs.LegContext.{condition_in, may_run_in, needs_finished_in}
use Rattle.table_model.specs.declared.phases.LegPhase.{LegPhase}
use Rattle.table_model.specs.declared.phases.LegPhase.TheVariants as leg
use Rattle.table_model.specs.declared.phases.RunPhase.{RunPhase}
use Rattle.table_model.specs.declared.phases.RunPhase.TheVariants as run
use Rattle.table_model.specs.declared.sites.RuleSite.{RuleSite}
use Rattle.table_model.specs.declared.sites.RuleSite.TheVariants.{Opening, AtLeg, Closing, Whole}
use Rattle.table_model.specs.declared.holder.Holder.TheVariants.{Run, Leg}
use Rattle.needs_graph.specs.Needs.{fails_job}
use Rattle.table_model.specs.Fitting.{is_ready, is_served, has_lease, has_room}
use Rattle.table_model.specs.inner.PlacedLegs.{PlacedLeg, placed_legs_of_run}
use Rattle.table_model.specs.Settling.{leg_end}

-- whether a rule applies to the leg there
abbrev pub goes_on_in : LegPhase → List RunState → LegSite → Bool
goes_on_in leg.New runs p = true
goes_on_in leg.Waiting runs p = may_start runs (Leg p)
goes_on_in _ runs p = false

abbrev pub goes_on : List RunState → LegSite → LegState → Bool
goes_on runs p l = goes_on_in l.phase runs p

abbrev pub first_of_legs : List RunState → ℕ → ℕ → List LegState → Option RuleSite
first_of_legs runs r j legs =
    first_some (λ l. if goes_on runs (leg_site r j l.0) l.1 then Some (AtLeg (leg_site r j l.0)) else None) (placed legs)

-- in a job that does not open: its first leg to which a rule applies, or else where it finishes
abbrev pub first_of_open : List RunState → ℕ → ℕ → JobState → Option RuleSite
first_of_open runs r j job = option_or (first_of_legs runs r j job.legs) (if is_done job then Some (Closing r j) else None)

abbrev pub first_in_job : List RunState → ℕ → RunState → ℕ → JobState → Option RuleSite
first_in_job runs r run j job =
    if is_blocked job.phase && needs_finished_in run j then Some (Opening r j) else first_of_open runs r j job

abbrev pub first_in_jobs : List RunState → ℕ → RunState → List JobState → Option RuleSite
first_in_jobs runs r run jobs = first_some (λ j. first_in_job runs r run j.0 j.1) (placed jobs)

-- whether a rule applies to the run itself
abbrev pub whole_goes_on_in : RunPhase → List RunState → ℕ → RunState → Bool
whole_goes_on_in run.Waiting runs r x = may_start runs (Run r)
whole_goes_on_in run.Live runs r x = list_all is_finished x.jobs
whole_goes_on_in run.Ended runs r x = false

abbrev pub first_of_whole : List RunState → ℕ → RunState → Option RuleSite
first_of_whole runs r x = if whole_goes_on_in x.phase runs r x then Some (Whole r) else None

abbrev pub first_in_run : List RunState → ℕ → RunState → Option RuleSite
first_in_run runs r x = option_or (if is_live x.phase then first_in_jobs runs r x x.jobs else None) (first_of_whole runs r x)

-- ---- the first leg that fits

-- the first ready leg that the runner can serve
abbrev pub served_in_job : List (List ℕ) → List RunState → ℕ → ℕ → JobState → Option LegSite
served_in_job labels runs r j job =
    first_some (λ l. if is_ready l.1.phase && is_served labels runs (leg_site r j l.0) then Some (leg_site r j l.0) else None)
    (placed job.legs)

abbrev pub fit_in_job : List (List ℕ) → List RunState → ℕ → ℕ → JobState → Option LegSite
fit_in_job labels runs r j job = if has_room runs r j job then served_in_job labels runs r j job else None

abbrev pub fit_in_jobs : List (List ℕ) → List RunState → ℕ → List JobState → Option LegSite
fit_in_jobs labels runs r jobs = first_some (λ j. fit_in_job labels runs r j.0 j.1) (placed jobs)

abbrev pub fit_in_run : List (List ℕ) → List RunState → ℕ → RunState → Option LegSite
fit_in_run labels runs r run = fit_in_jobs labels runs r run.jobs

-- ---- the first leg that fails its job

-- the index of the leg, if it fails its job
abbrev pub failing : List RunState → ℕ → ℕ → ℕ × LegState → Option ℕ
failing runs r j l = if option_map_or fails_job (leg_end runs r j l) false then Some l.0 else None

-- ---- the leg with a lease

-- the site of the first of these legs that has the lease
abbrev pub first_leased : ℕ → List PlacedLeg → Option LegSite
first_leased lease legs = first_some (λ x. if has_lease lease x.leg then Some x.site else None) legs

abbrev pub lease_in_run : ℕ → ℕ → RunState → Option LegSite
lease_in_run lease r run = first_leased lease (placed_legs_of_run (r, run))

-- The leases of legs, by site, and the leases that runners hold.
use Rattle.std.specs.Prelude.{ℕ, List, Option, option_and_then, slice_get}
use Rattle.stored_tables.specs.inner.ByNumber.{Finds}
use Rattle.table_model.specs.Runs.{run_at, LegState, JobState, RunState}
use Rattle.table_model.specs.declared.sites.LegSite.{LegSite}
use Rattle.table_model.specs.TableState.{RunnerState}

-- the lease of the leg at an index, if it has one
abbrev pub lease_in_job : List LegState → ℕ → Option ℕ
lease_in_job legs l = option_and_then (λ x. x.lease) (slice_get legs l)

abbrev pub lease_in_run : List JobState → ℕ → ℕ → Option ℕ
lease_in_run jobs j l = option_and_then (λ job. lease_in_job job.legs l) (slice_get jobs j)

abbrev pub lease_of_leg : List RunState → LegSite → Option ℕ
lease_of_leg runs p = option_and_then (λ run. lease_in_run run.jobs p.job p.leg) (run_at runs p.run)

-- leg_of finds the legs by their leases
abbrev pub FindsLegs : List RunState → (ℕ → Option LegSite) → Type 0
FindsLegs runs leg_of = (n : ℕ) → Finds (lease_of_leg runs) n (leg_of n)

-- the lease that the runner at an index holds, if any
abbrev pub lease_of_runner : List RunnerState → ℕ → Option ℕ
lease_of_runner runners k = option_and_then (λ x. x.holds) (slice_get runners k)

-- The rules of a table for each run, each job, each leg and each runner, given maps that find legs and runners by
-- leases.
use Rattle.std.specs.Prelude.{◌≡◌, ℕ, ◌≤◌, List, [], slice_get, Bool, false, true, is_some, Option, Some}
use Rattle.std.specs.BTreeMap.{get}
use Rattle.std.specs.Option.{option_map_or}
use Rattle.std.specs.Ordering.{nat_cmp}
use Rattle.table_model.specs.Fitting.{is_at_work, legs_at_work, most_at_work}
use Rattle.table_model.specs.Runs.{leg_at, run_at, LegState, JobState, RunState}
use Rattle.table_model.specs.declared.sites.LegSite.{LegSite}
use Rattle.table_model.specs.Settling.{result_at}
use Rattle.table_model.specs.Sound.{AttemptIsGiven, IsLastOf, LeaseFits, LegsFit, PhaseFits}
use Rattle.table_model.specs.TableState.{RunnerState}
use Rattle.table_model.specs.LegContext.{needs_have_finished, planned_legs}
use Rattle.stored_tables.specs.declared.sound.leases.Leases.{Leases}

-- ---- look-ups by lease

abbrev pub leg_of : Leases → ℕ → Option LegSite
leg_of leases n = get nat_cmp leases.legs n

abbrev pub runner_of : Leases → ℕ → Option ℕ
runner_of leases n = get nat_cmp leases.held n

-- a runner is at work on the leg that is found
abbrev pub is_worked_on : List RunState → Leases → ℕ → Bool
is_worked_on runs leases n = option_map_or (λ p. option_map_or (λ x. is_at_work x.phase) (leg_at runs p) false) (leg_of leases n) false

-- ---- a leg

-- a lease is a number from 1 to the last
abbrev pub IsGiven : ℕ → Option ℕ → Type 0
IsGiven last lease = (n : ℕ) → lease ≡ Some n → (1 ≤ n) × (n ≤ last)

-- a look-up by the leg's lease finds the leg, and a runner holds the lease while the leg is at work
abbrev pub IsFound : Leases → LegSite → LegState → Type 0
IsFound leases p x = (n : ℕ) → x.lease ≡ Some n → (leg_of leases n ≡ Some p)
    × (is_at_work x.phase ≡ true → is_some (runner_of leases n) ≡ true)

pub record LegIsSound (leases : Leases) (p : LegSite) (x : LegState) : Type 0 where
  pub lease_fits : LeaseFits x.phase x.lease
  pub lease_is_given : IsGiven leases.last x.lease
  pub is_found : IsFound leases p x

abbrev pub EachLegIsSound : Leases → List RunState → Type 0
EachLegIsSound leases runs = (p : LegSite) (x : LegState) → leg_at runs p ≡ Some x → LegIsSound leases p x

-- ---- a job

-- it has legs only if its needed jobs are finished
abbrev pub NeedsAreFirst : List RunState → ℕ → ℕ → JobState → Type 0
NeedsAreFirst runs r j x = (x.legs ≡ [] → ⊥) → needs_have_finished runs r j ≡ true

-- at most max-parallel of its legs are at work
abbrev pub IsWithinParallel : List RunState → ℕ → ℕ → JobState → Type 0
IsWithinParallel runs r j x = (most : ℕ) → most_at_work runs r j ≡ Some most → legs_at_work x ≤ most

pub record JobIsSound (runs : List RunState) (r j : ℕ) (x : JobState) : Type 0 where
  pub legs_fit : LegsFit (planned_legs runs r j) (result_at runs r j x) x.phase x.legs
  pub needs_first : NeedsAreFirst runs r j x
  pub within_parallel : IsWithinParallel runs r j x

abbrev pub EachJobIsSound : List RunState → ℕ → List JobState → Type 0
EachJobIsSound runs r jobs = (j : ℕ) (x : JobState) → slice_get jobs j ≡ Some x → JobIsSound runs r j x

-- ---- a run

pub record RunIsSound (runs : List RunState) (r : ℕ) (x : RunState) : Type 0 where
  pub attempt_is_given : AttemptIsGiven x
  pub phase_fits : PhaseFits x.phase x.stopping x.jobs
  pub each_job : EachJobIsSound runs r x.jobs

abbrev pub EachRunIsSound : List RunState → Type 0
EachRunIsSound runs = (r : ℕ) (x : RunState) → run_at runs r ≡ Some x → RunIsSound runs r x

-- ---- a runner

-- a look-up by the lease that the runner holds finds the runner, and a runner is at work on the lease's leg
abbrev pub HoldsWork : Leases → List RunState → ℕ → RunnerState → Type 0
HoldsWork leases runs k x = (n : ℕ) → x.holds ≡ Some n → (runner_of leases n ≡ Some k) × (is_worked_on runs leases n ≡ true)

pub record RunnerIsSound (leases : Leases) (runs : List RunState) (k : ℕ) (x : RunnerState) : Type 0 where
  pub holds_work : HoldsWork leases runs k x
  pub last_is_own : IsLastOf x.name x.number x.last

abbrev pub EachRunnerIsSound : Leases → List RunState → List RunnerState → Type 0
EachRunnerIsSound leases runs runners = (k : ℕ) (x : RunnerState) → slice_get runners k ≡ Some x → RunnerIsSound leases runs k x

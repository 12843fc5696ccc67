-- What makes a table storable: a run has as many jobs as its plan, a leg count of a job fits in four bytes, and no leg is new, since new legs have no
-- encoding.
use Rattle.std.specs.Prelude.{◌≡◌, ℕ, ◌≤◌, List, length, false, Some}
use Rattle.definitions.specs.Limits.{max_runs}
use Rattle.table_model.specs.Runs.{job_at, leg_at, LegState, JobState, RunState, is_new}
use Rattle.table_model.specs.declared.sites.LegSite.{LegSite}
use Rattle.table_model.specs.Sound.{JobsAreThePlans, AttemptsAreGiven}

-- after settling none is
abbrev pub NoLegIsNew : List RunState → Type 0
NoLegIsNew runs = (p : LegSite) (x : LegState) → leg_at runs p ≡ Some x → is_new x.phase ≡ false

-- a job has at most 256 legs
abbrev pub LegsAreFew : List RunState → Type 0
LegsAreFew runs = (r j : ℕ) (x : JobState) → job_at runs r j ≡ Some x → length x.legs ≤ 256

pub record IsStorable (runs : List RunState) : Type 0 where
  pub few_runs : length runs ≤ max_runs
  pub attempts_are_given : AttemptsAreGiven runs
  pub jobs_are_the_plans : JobsAreThePlans runs
  pub legs_are_few : LegsAreFew runs
  pub no_leg_is_new : NoLegIsNew runs

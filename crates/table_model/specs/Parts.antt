-- Runs as they are stored: without their ids and their numbers, which follow from their places and from the forgotten runs.
use Rattle.std.specs.Prelude.{◌≡◌, ℕ, List, map, Bool}
use Rattle.definitions.specs.SmallText.{Admitted}
use Rattle.table_model.specs.Forgotten.{ForgottenRuns}
use Rattle.table_model.specs.Runs.{JobState, RunState}
use Rattle.table_model.specs.Sound.{IdsFollow, NumbersFollow}
use Rattle.table_model.specs.declared.phases.RunPhase.{RunPhase}

-- what was admitted, the attempt and its phase, whether the run has been asked to stop, and the jobs
pub record RunParts : Type 0 where
  pub admitted : Admitted
  pub attempt : ℕ
  pub phase : RunPhase
  pub stopping : Bool
  pub jobs : List JobState

abbrev pub stored_run : RunState → RunParts
stored_run run = record {
  admitted = run.admitted;
  attempt = run.attempt;
  phase = run.phase;
  stopping = run.stopping;
  jobs = run.jobs;
}

-- the run that has this id and this number
abbrev pub run_of_parts : ℕ → ℕ → RunParts → RunState
run_of_parts id number parts = record {
  id = id;
  number = number;
  admitted = parts.admitted;
  attempt = parts.attempt;
  phase = parts.phase;
  stopping = parts.stopping;
  jobs = parts.jobs;
}

-- the runs that are stored as these parts, after the forgotten ones
pub record AreRunsOf (forgotten : ForgottenRuns) (parts : List RunParts) (runs : List RunState) : Type 0 where
  pub as_stored : map stored_run runs ≡ parts
  pub ids : IdsFollow forgotten runs
  pub numbers : NumbersFollow forgotten runs

-- Which runs and jobs have a leg that is ready, waits for its group or holds it. Claims and settling ask this of one run alone.
use Rattle.std.specs.Prelude.{◌||◌, Bool}
use Rattle.std.specs.List.{list_any}
use Rattle.table_model.specs.Fitting.{is_ready}
use Rattle.table_model.specs.Groups.{leg_holds, leg_waits, run_waits}
use Rattle.table_model.specs.Runs.{JobState, LegState, RunState, is_live}

abbrev pub has_ready_leg : JobState → Bool
has_ready_leg job = list_any (λ l. is_ready l.phase) job.legs

abbrev pub offers_legs : RunState → Bool
offers_legs run = list_any has_ready_leg run.jobs

-- whether a leg waits for its group or holds it; a leg with a runner at work holds it
abbrev pub is_active_leg : LegState → Bool
is_active_leg leg = leg_waits leg.phase || leg_holds leg.phase

abbrev pub has_active_leg : JobState → Bool
has_active_leg job = list_any is_active_leg job.legs

-- whether the run waits or is live, or one of its legs is active
abbrev pub is_active : RunState → Bool
is_active run = (run_waits run.phase || is_live run.phase) || list_any has_active_leg run.jobs

-- The view of a run and its text.
use Rattle.std.specs.Prelude.{ℕ, List, ◌++◌, map, flat_map, Bool, is_some, nat_le, codes, if◌then◌else◌}
use Rattle.std.specs.List.{list_any, zip, join_with_byte}
use Rattle.std.specs.Fmt.{decimal}
use Rattle.wf_value.specs.ScalarValue.{outcome_word, result_word}
use Rattle.needs_graph.specs.Needs.{conclusion_of}
use Rattle.run_plan.specs.PlanOf.{plan_of}
use Rattle.run_plan.specs.declared.planned.PlannedJob.{PlannedJob}
pub use Rattle.table_model.specs.Runs.{results_of}
use Rattle.table_model.specs.Runs.{LegState, JobState, RunState}
use Rattle.table_model.specs.declared.phases.JobPhase.{JobPhase}
use Rattle.table_model.specs.declared.phases.JobPhase.TheVariants as job
use Rattle.table_model.specs.declared.phases.LegPhase.{LegPhase}
use Rattle.table_model.specs.declared.phases.LegPhase.TheVariants as leg
use Rattle.table_model.specs.declared.phases.RunPhase.{RunPhase}
use Rattle.table_model.specs.declared.phases.RunPhase.TheVariants as phase

-- the view of a run: its id, its number and the run itself
pub record Seen : Type 0 where
  pub id : ℕ
  pub number : ℕ
  pub run : RunState

abbrev pub seen_of : RunState → Seen
seen_of run = record { id = run.id; number = run.number; run = run }

abbrev pub leg_text : LegPhase → List ℕ
leg_text leg.New = codes "new"
leg_text leg.Waiting = codes "waiting"
leg_text leg.Ready = codes "ready"
leg_text leg.Running = codes "running"
leg_text leg.Stopping = codes "stopping"
leg_text (leg.Ended r) = outcome_word r

-- the legs' states, joined by commas
abbrev pub legs_text : List LegState → List ℕ
legs_text legs = codes "(" ++ join_with_byte 44 (map (λ l. leg_text l.phase) legs) ++ codes ")"

abbrev pub phase_text : JobPhase → List LegState → List ℕ
phase_text job.Blocked legs = codes "blocked"
phase_text job.Open legs = codes "open" ++ legs_text legs
phase_text (job.Finished r) legs = result_word r ++ legs_text legs

abbrev pub job_text : JobState → List ℕ
job_text j = phase_text j.phase j.legs

abbrev pub has_claimed_leg : JobState → Bool
has_claimed_leg j = list_any (λ l. is_some l.lease) j.legs

abbrev pub was_claimed : List JobState → Bool
was_claimed jobs = list_any has_claimed_leg jobs

-- the status of a live run, by whether any of its legs was ever claimed
abbrev pub live_text : Bool → List ℕ
live_text claimed = if claimed then codes "in_progress" else codes "queued"

abbrev pub status_text : RunPhase → List JobState → List ℕ
status_text phase.Waiting jobs = codes "pending"
status_text phase.Live jobs = live_text (was_claimed jobs)
status_text phase.Ended jobs = codes "completed"

-- `-` before the end
abbrev pub conclusion_text : RunPhase → List JobState → List ℕ
conclusion_text phase.Waiting jobs = codes "-"
conclusion_text phase.Live jobs = codes "-"
conclusion_text phase.Ended jobs = outcome_word (conclusion_of (results_of jobs))

-- a job's id and its state, after a space
abbrev pub planned_job_text : PlannedJob × JobState → List ℕ
planned_job_text j = codes " " ++ j.0.id ++ codes ":" ++ job_text j.1

-- each job of the plan with its state
abbrev pub jobs_text : List PlannedJob → List JobState → List ℕ
jobs_text plan jobs = flat_map planned_job_text (zip plan jobs)

-- `STATUS CONCLUSION JOB:STATE ..`
abbrev pub run_text : List PlannedJob → RunPhase → List JobState → List ℕ
run_text plan phase jobs = status_text phase jobs ++ codes " " ++ conclusion_text phase jobs ++ jobs_text plan jobs

-- the number, followed by the attempt from the second one on
abbrev pub number_text : ℕ → ℕ → List ℕ
number_text number attempt = if nat_le attempt 1 then decimal number else decimal number ++ codes "." ++ decimal attempt

-- `run ID NUMBER`, or `run ID NUMBER.ATTEMPT`, and the rest
abbrev pub seen_text : Seen → List ℕ
seen_text seen =
    codes "run " ++ decimal seen.id ++ codes " " ++ number_text seen.number seen.run.attempt ++ codes " "
    ++ run_text (plan_of seen.run.admitted.body) seen.run.phase seen.run.jobs

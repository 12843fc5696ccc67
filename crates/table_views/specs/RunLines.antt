-- A run as an operator sees it: the view that `look` prints, or the same values as JSON. The format is defined by this
-- project.
use Rattle.std.specs.Prelude.{ℕ, List, ◌++◌, map, codes, decimal}
use Rattle.std.specs.List.{zip}
use Rattle.wf_value.specs.ScalarValue.{result_word}
use Rattle.run_plan.specs.PlanOf.{plan_of}
use Rattle.run_plan.specs.declared.planned.PlannedJob.{PlannedJob}
use Rattle.table_model.specs.Runs.{JobState, LegState}
use Rattle.table_model.specs.declared.phases.JobPhase.{JobPhase}
use Rattle.table_model.specs.declared.phases.JobPhase.TheVariants as job
use Rattle.table_model.specs.ViewText.{Seen, conclusion_text, leg_text, seen_text, status_text}
use Rattle.table_views.specs.Texts.{line, listed, quoted}
use Rattle.table_views.specs.declared.form.Form.{Form}
use Rattle.table_views.specs.declared.form.Form.TheVariants as form

abbrev pub state_text : JobPhase → List ℕ
state_text job.Blocked = codes "blocked"
state_text job.Open = codes "open"
state_text (job.Finished r) = result_word r

abbrev pub leg_json : LegState → List ℕ
leg_json leg = quoted (leg_text leg.phase)

abbrev pub job_json : PlannedJob × JobState → List ℕ
job_json j =
    codes "{\"id\":" ++ quoted j.0.id ++ codes ",\"state\":" ++ quoted (state_text j.1.phase) ++ codes ",\"legs\":"
    ++ listed (map leg_json j.1.legs) ++ codes "}"

abbrev pub jobs_json : List PlannedJob → List JobState → List (List ℕ)
jobs_json plan jobs = map job_json (zip plan jobs)

-- the start of an object, up to the run's attempt
abbrev pub run_start : Seen → List ℕ
run_start seen =
    codes "{\"run\":" ++ decimal seen.id ++ codes ",\"number\":" ++ decimal seen.number ++ codes ",\"attempt\":" ++ decimal seen.run.attempt

abbrev pub run_json : Seen → List ℕ
run_json seen =
    run_start seen ++ codes ",\"status\":" ++ quoted (status_text seen.run.phase seen.run.jobs)
    ++ codes ",\"conclusion\":" ++ quoted (conclusion_text seen.run.phase seen.run.jobs)
    ++ codes ",\"jobs\":" ++ listed (jobs_json (plan_of seen.run.admitted.body) seen.run.jobs) ++ codes "}"

abbrev pub run_line : Form → Seen → List ℕ
run_line form.Lines seen = line (seen_text seen)
run_line form.Json seen = line (run_json seen)

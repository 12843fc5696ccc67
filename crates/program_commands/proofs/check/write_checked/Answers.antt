use Rattle.std.proofs.Common.{◌≡◌, [], map, Ok, ap, ◌∙◌, sym}
use Rattle.std.proofs.KnownBytes.{Appends-nil}
use Rattle.run_plan.specs.PlanOf.{planned_job}
use Rattle.program_commands.specs.Check.{checked, plan_lines}
use Rattle.program_commands.proofs.Checks.{lines_written, refused_plan}
use Rattle.program_commands.proofs.Writing.{flushed, stopped}
use Rattle.program_commands.proofs.check.write_checked.Goals as goal

pub returns-in_err-workflow : goal.returns-in_err-workflow
returns-in_err-workflow g c = (
  [],
  Appends-nil (g.W.Write.contents c.args.writer.now),
  refused_plan c.args.text.now c.from_residual.result c.in_err-workflow.field-0.0 c.from_residual.ensures.1 c.in_err-workflow.ensures.lines,
)

pub returns-in_err-write_jobs : goal.returns-in_err-write_jobs
returns-in_err-write_jobs g c =
    let jobs = c.as_slice.result.now in
    let lines = plan_lines (map planned_job jobs) in
    let told : checked c.args.text.now ≡ Ok lines =
    c.in_ok-workflow.ensures.lines ∙ ap (λ js. Ok (plan_lines (map planned_job js))) (sym c.as_slice.ensures.jobs) in
    lines_written c.args.text.now lines _ _ c.from_residual-in_err-write_jobs.result told
    (stopped _ _ lines _ c.in_err-write_jobs.field-0.0 c.from_residual-in_err-write_jobs.ensures.1 c.in_err-write_jobs.ensures.0
    c.in_err-write_jobs.ensures.1)

pub returns : goal.returns
returns g c =
    let jobs = c.as_slice.result.now in
    let lines = plan_lines (map planned_job jobs) in
    let told : checked c.args.text.now ≡ Ok lines =
    c.in_ok-workflow.ensures.lines ∙ ap (λ js. Ok (plan_lines (map planned_job js))) (sym c.as_slice.ensures.jobs) in
    lines_written c.args.text.now lines _ _ c.flush.result told
    (flushed _ _ _ lines c.flush.result c.in_ok-write_jobs.ensures c.flush.ensures.kept c.flush.ensures.err)

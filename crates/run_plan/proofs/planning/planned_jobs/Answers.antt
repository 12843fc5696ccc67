use Rattle.std.proofs.Common.{◌≡◌, ◌++◌, [], length, map, Ok, sym, ap, ◌∙◌, arith}
use Rattle.std.specs.Vec.Iter.{into_iter_items}
use Rattle.wf_value.proofs.PassedOn.{passed_on}
use Rattle.wf_reader.proofs.InOrder.{first_of_rest, none_of_first, one_more, same_value}
use Rattle.run_plan.specs.PlanOf.{job_faults, legs_faults, planned_job}
use Rattle.wf_reader.specs.Faults.{unless_faulty}
use Rattle.run_plan.proofs.Jobs.{all_done, nothing_left}
use Rattle.run_plan.proofs.planning.planned_jobs.Goals as goal

pub returns-in_err-planned_job : goal.returns-in_err-planned_job
returns-in_err-planned_job c =
    passed_on _ _ _ _ c.in_err-planned_job.field-0.0 c.from_residual-in_err-planned_job.ensures.1 c.in_err-planned_job.ensures
    (λ refused. first_of_rest job_faults c.args.jobs (into_iter_items c.loop-job.job-iterator) (into_iter_items c.next.new.self)
    c.in-Some.job (planned_job c.in-Some.job) _ c.in_err-planned_job.field-0.0 c.loop-job.invariant.left c.in-Some.ensures.steps.0 refused)

pub loop-job-preserved : goal.loop-job-preserved
loop-job-preserved c =
    let at = c.loop-job in
    let steps = c.in-Some.ensures.steps.0 in
    let planned = c.in_ok-planned_job.ensures in
    let short = ap length steps in
    let was = at.invariant.counted in
    let gone = c.in-Some.ensures.steps.1 in
    record {
      left = none_of_first job_faults c.args.jobs (into_iter_items at.job-iterator) (into_iter_items c.next.new.self) c.in-Some.job
          (planned_job c.in-Some.job) _ at.invariant.left steps planned;
      done = ap (λ js. js ++ map planned_job (into_iter_items c.next.new.self)) c.in_ok-push.ensures.items
          ∙ one_more planned_job c.args.jobs (into_iter_items at.job-iterator) (into_iter_items c.next.new.self) at.planned.items
          c.in-Some.job _ at.invariant.done steps (same_value (job_faults c.in-Some.job) (planned_job c.in-Some.job) _ planned);
      counted = omega arith;
    }

pub returns : goal.returns
returns c =
    let at = c.loop-job in
    let none = nothing_left (into_iter_items at.job-iterator) (sym c.in-None.ensures.steps.0 ∙ at.invariant.counted) in
    let no_faults : legs_faults c.args.jobs ≡ [] = at.invariant.left ∙ ap legs_faults none in
    let planned = all_done planned_job at.planned.items (into_iter_items at.job-iterator) c.args.jobs at.invariant.done none in
    ap (λ fs. unless_faulty fs (map planned_job c.args.jobs)) no_faults ∙ ap Ok (sym planned ∙ sym c.new.ensures)

use Rattle.std.proofs.Common.{IsTrue, refl, sym, subst}
use Rattle.wf_reader.specs.JobOrder.{ids_rise}
use Rattle.wf_value.proofs.PassedOn.{passed_on}
use Rattle.wf_reader.specs.Job.{job_faults, job_of}
use Rattle.wf_reader.proofs.Entries.{check_fails, check_left, check_done, all_done, rises-sorted}
use Rattle.wf_reader.proofs.workflow.read_each.Goals as goal

pub returns-in_err-read_job : goal.returns-in_err-read_job
returns-in_err-read_job c =
    passed_on _ _ _ _ c.in_err-read_job.field-0.0 c.from_residual-in_err-read_job.ensures.1
    c.in_err-read_job.ensures (λ refused.
    check_fails job_faults job_of c.args.members.entries c.loop-id.id-iterator c.next.new.self (c.in-Some.id, c.in-Some.value)
    c.as_str.result.now _ _ c.loop-id.invariant.left c.in-Some.ensures.steps c.as_str.ensures.value refused)

pub loop-id-preserved : goal.loop-id-preserved
loop-id-preserved c =
    record {
      left = check_left job_faults job_of c.args.members.entries c.loop-id.id-iterator c.next.new.self
          (c.in-Some.id, c.in-Some.value) c.as_str.result.now _ c.loop-id.invariant.left
          c.in-Some.ensures.steps c.as_str.ensures.value c.in_ok-read_job.ensures;
      done = check_done job_faults job_of c.args.members.entries c.loop-id.id-iterator c.next.new.self c.loop-id.jobs.items _
          (c.in-Some.id, c.in-Some.value) c.as_str.result.now _ c.loop-id.invariant.done c.in_ok-push.ensures.items
          c.in-Some.ensures.steps c.as_str.ensures.value c.in_ok-read_job.ensures;
    }

pub new-requires : goal.new-requires
new-requires c =
    subst (λ js. IsTrue (ids_rise js)) (sym
    (all_done job_faults job_of c.args.members.entries c.loop-id.id-iterator c.loop-id.jobs.items c.loop-id.invariant.done
    c.in-None.ensures.steps.0))
    (rises-sorted (λ j. j.id) _ (λ e. refl) c.args.members.entries c.into_iter-id-iterator.ensures.into_iter_gives.5)

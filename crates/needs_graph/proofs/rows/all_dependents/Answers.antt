use Rattle.std.proofs.Common.{zero-add}
use Rattle.std.proofs.lemmas.List.FromFn.{map-range_with_len_more}
use Rattle.needs_graph.specs.inner.JobBitmap.{is_marked}
use Rattle.needs_graph.specs.Needs.{indexes}
use Rattle.needs_graph.proofs.rows.all_dependents.Goals as goal

pub loop-job-preserved : goal.loop-job-preserved
loop-job-preserved c =
    let step = map-range_with_len_more (λ job. indexes (λ row. is_marked row job) c.args.rows.now) 0 c.loop-job.job c.loop-job.job
    (zero-add c.loop-job.job) in
    cc (c.in_ok-push.ensures.items, c.new.ensures, c.in_ok-dependents_on.ensures, c.loop-job.invariant, step)

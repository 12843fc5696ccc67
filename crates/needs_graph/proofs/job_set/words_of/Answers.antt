use Rattle.std.proofs.Common.{◌≡◌, ◌∙◌, ◌<◌, length, ap, arith}
use Rattle.std.proofs.lemmas.Grind.{common_steps}
use Rattle.needs_graph.specs.inner.JobSets.{is_in}
use Rattle.needs_graph.proofs.JobSetSteps.{next_is_in, next_is_out}
use Rattle.needs_graph.proofs.job_set.words_of.Goals as goal
use Rattle.needs_graph.proofs.job_set.words_of.Goals.{then-mark, else-mark}

pub loop-job-preserved : goal.loop-job-preserved
loop-job-preserved c =
    let marks = c.args.marks.now in
    let at = c.loop-job.job in
    let so_far = c.loop-job.invariant in
    let below : at < length marks = omega arith in
    elim c.if-mark.branch [
      | then-mark w ↦
          let items : c.if-mark.words.items ≡ w.insert.new.words = grind (arith, common_steps) in
          let lent : w.as_mut_slice.result.now ≡ c.loop-job.words.items = w.as_mut_slice.ensures.value in
          let next =
          next_is_in marks w.as_mut_slice.result.now w.insert.new.words at below w.if-mark.true
          (λ job. ap (λ l. is_in l job) lent ∙ so_far.1 job)
          w.insert.ensures.it
          w.insert.ensures.others in
          (omega (arith, ap length items, w.insert.auto.words, ap length lent, so_far.0), λ job. ap (λ l. is_in l job) items ∙ next job)
      | else-mark w ↦
          let items : c.if-mark.words.items ≡ c.loop-job.words.items = cc in (
            ap length items ∙ so_far.0,
            λ job. ap (λ l. is_in l job) items
                ∙ next_is_out marks c.loop-job.words.items at below w.if-mark.false so_far.1 job,
          )
    ]

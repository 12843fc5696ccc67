use Rattle.std.proofs.Common.{◌<◌, ◌∙◌, length, ap, take, arith}
use Rattle.std.proofs.lemmas.Grind.{common_steps}
use Rattle.std.proofs.lemmas.List.{length-take-le, take_all}
use Rattle.needs_graph.specs.inner.JobBitmap.{marked}
use Rattle.needs_graph.proofs.MarkSteps.{marked_more, marked_trimmed}
use Rattle.needs_graph.proofs.marks.marked_indexes.Goals as goal
use Rattle.needs_graph.proofs.marks.marked_indexes.Goals.{then-mark+in_ok-push, else-mark}

pub loop-job-preserved : goal.loop-job-preserved
loop-job-preserved c =
    let first = take c.end_of.result c.args.marks.now in
    let below : c.loop-job.job < length first = omega arith in
    let step = marked_more first c.loop-job.job below in
    elim c.if-mark.branch [
      | then-mark+in_ok-push w ↦ grind (arith, common_steps)
      | else-mark w ↦ grind (arith, common_steps)
    ]

pub returns : goal.returns
returns c =
    let marks = c.args.marks.now in
    let end = c.end_of.result in
    let first = take end marks in
    let wide = length-take-le end marks c.end_of.ensures.within in
    c.loop-job.invariant
    ∙ (ap marked (take_all c.loop-job.job first (omega (arith, wide))) ∙ marked_trimmed marks end c.end_of.ensures.rest)

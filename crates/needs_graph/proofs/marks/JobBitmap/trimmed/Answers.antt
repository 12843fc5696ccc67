use Rattle.std.proofs.Common.{ap, sym, ◌∙◌}
use Rattle.needs_graph.specs.inner.JobBitmap.{either}
use Rattle.needs_graph.proofs.MarkSteps.{either_trimmed}
use Rattle.needs_graph.proofs.marks.JobBitmap.trimmed.Goals as goal

pub returns : goal.returns
returns c = λ marks. ap (either marks) (cc (c.in_ok-from_slice.ensures.items))
    ∙ either_trimmed marks c.args.self.now c.end_of-end.result
    (λ k enough. rw (sym c.self.view_is, sym c.as_slice.ensures.value) (c.end_of-end.ensures.rest k enough))

use Rattle.std.proofs.Common.{◌≡◌, map}
use Rattle.std.specs.List.{range_with_len}
use Rattle.needs_graph.specs.inner.JobBitmap.{is_marked}
use Rattle.needs_graph.specs.Needs.{indexes}
use Rattle.needs_graph.proofs.rows.all_dependents.Given as goal

abbrev pub invariant-loop-job : goal.invariant-loop-job
invariant-loop-job l = l.dependents.items ≡ map (λ job. indexes (λ row. is_marked row job) l.rows) (range_with_len 0 l.job)

use Rattle.std.proofs.Common.{subst}
use Rattle.table_model.specs.inner.Cells.{JobCells}
use Rattle.table_model.specs.inner.LegCounts.{AreCounted}
use Rattle.table_model.proofs.job.Job.counts.Goals as goal

pub returns : goal.returns
returns c = subst (λ (cells : JobCells). AreCounted cells.state.legs c.self.inside.counts) c.self.view_is c.self.invariant

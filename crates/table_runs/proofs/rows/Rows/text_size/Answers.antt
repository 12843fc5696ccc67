use Rattle.std.proofs.Common.{ap, ◌∙◌}
use Rattle.std.specs.Prelude.{sum_by}
use Rattle.table_runs.specs.StoredSizes.{run_size}
use Rattle.table_runs.specs.inner.RowsKept.{RowState}
use Rattle.table_runs.proofs.SizesKept.{size_most}
use Rattle.table_runs.proofs.rows.Rows.text_size.Goals as goal

pub returns-clause-size : goal.returns-clause-size
returns-clause-size c = c.self.invariant.1.is ∙ ap (λ (rows : RowState). sum_by run_size rows.runs) c.self.view_is

pub returns-clause-most : goal.returns-clause-most
returns-clause-most c = size_most c.self.inside.runs.items c.self.inside.text c.self.invariant.1 c.self.invariant.0.few

use Rattle.std.proofs.Common.{rules}
use Rattle.std.proofs.lemmas.List.Sorted.{IsPartitionPoint-from_clause}
use Rattle.table_model.specs.Forgotten.{workflow_order}
use Rattle.table_model.proofs.Counts.{workflow_total}
use Rattle.table_model.proofs.Filters.{prefix_counted}
use Rattle.table_model.proofs.InOrder.{before, parted}
use Rattle.forgotten_runs.specs.inner.CountIndexes.{first_count}
use Rattle.forgotten_runs.proofs.workflow_counts.index_in.Goals as goal

pub returns : goal.returns
returns c =
    let counts = c.args.counts.now in
    let its = first_count c.args.event.now in
    let test = before workflow_order workflow_total its in
    let point = IsPartitionPoint-from_clause test counts c.partition_point.result c.partition_point.ensures.partitioned
    (parted workflow_order workflow_total counts its c.requires) (λ a r f called. search rules) in
    prefix_counted test counts c.partition_point.result c.partition_point.ensures.bound point.0 point.1

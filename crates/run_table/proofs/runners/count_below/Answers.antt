use Rattle.std.proofs.Common.{rules}
use Rattle.std.proofs.lemmas.List.Sorted.{IsPartitionPoint-from_clause}
use Rattle.table_model.specs.TableState.{is_below}
use Rattle.run_table.proofs.RunnerOrder.{parted_by_name}
use Rattle.table_model.proofs.Filters.{prefix_counted}
use Rattle.run_table.proofs.runners.count_below.Goals as goal

pub returns : goal.returns
returns c =
    let point = IsPartitionPoint-from_clause (is_below c.args.name.now) c.args.runners.now c.partition_point.result
    c.partition_point.ensures.partitioned (parted_by_name c.args.runners.now c.args.name.now c.requires)
    (λ a r f called. search rules) in
    prefix_counted (is_below c.args.name.now) c.args.runners.now c.partition_point.result c.partition_point.ensures.bound point.0 point.1

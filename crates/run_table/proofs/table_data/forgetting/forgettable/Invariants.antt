use Rattle.std.proofs.Common.{◌≤◌}
use Rattle.std.specs.List.{prefix_len}
use Rattle.table_model.specs.Step.{is_forgettable}
use Rattle.run_table.proofs.table_data.forgetting.forgettable.Given as goal

-- the runs before the index may be forgotten
abbrev pub invariant-loop-r : goal.invariant-loop-r
invariant-loop-r l = l.r ≤ prefix_len (is_forgettable l.id) l.runs

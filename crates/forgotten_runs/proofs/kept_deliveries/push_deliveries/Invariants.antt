use Rattle.std.proofs.Common.{◌≡◌, ◌++◌, take}
use Rattle.table_model.specs.Forgotten.{deliveries_of}
use Rattle.forgotten_runs.proofs.kept_deliveries.push_deliveries.Given as goal

-- the deliveries of the runs so far are appended
abbrev pub invariant-loop-run : goal.invariant-loop-run
invariant-loop-run l = l.kept.items ≡ l.fn.kept.items ++ deliveries_of (take l.run-index l.runs)

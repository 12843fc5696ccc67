use Rattle.table_runs.proofs.NobodyYet.{kept_without_runs}
use Rattle.table_runs.proofs.runs.Runs.new.Goals as goal

pub invariant_of-result : goal.invariant_of-result
invariant_of-result c =
    kept_without_runs c.new.result c.new-2.result c.new-3.result c.new.ensures.runs c.new.ensures.bindings c.new-2.ensures.entries

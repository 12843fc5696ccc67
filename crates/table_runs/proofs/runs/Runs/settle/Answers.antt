use Rattle.settling_laws.proofs.Resumed.{rest_before_all}
use Rattle.table_runs.proofs.runs.Runs.settle.Goals as goal

pub settle_from-requires-clause-rest : goal.settle_from-requires-clause-rest
settle_from-requires-clause-rest c = rest_before_all c.args.self.now

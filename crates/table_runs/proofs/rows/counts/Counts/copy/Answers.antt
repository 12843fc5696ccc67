use Rattle.table_runs.proofs.Counting.{copied_counts}
use Rattle.table_runs.proofs.rows.counts.Counts.copy.Goals as goal

pub returns-clause-same : goal.returns-clause-same
returns-clause-same c = λ event. copied_counts _ _ (λ x y same. same) (λ m n same. same)
    c.args.self.now.counts c.in_ok-clone.field-0 c.in_ok-clone.ensures.cases event

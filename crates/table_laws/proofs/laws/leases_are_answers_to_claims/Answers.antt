use Rattle.table_laws.proofs.ReachedTables.{leased_by_a_claim}
use Rattle.table_laws.proofs.laws.leases_are_answers_to_claims.Goals as goal

pub returns : goal.returns
returns c = λ commands p leg lease at is. leased_by_a_claim commands p leg lease at is

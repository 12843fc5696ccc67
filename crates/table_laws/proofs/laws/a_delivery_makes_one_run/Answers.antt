use Rattle.table_laws.proofs.Deliveries.{delivery_again}
use Rattle.table_laws.proofs.laws.a_delivery_makes_one_run.Goals as goal

pub returns : goal.returns
returns c = delivery_again

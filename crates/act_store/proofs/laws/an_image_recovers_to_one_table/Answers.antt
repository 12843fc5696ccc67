use Rattle.act_store.proofs.OneTable.{one_table}
use Rattle.act_store.proofs.laws.an_image_recovers_to_one_table.Goals as goal

pub returns : goal.returns
returns c = one_table

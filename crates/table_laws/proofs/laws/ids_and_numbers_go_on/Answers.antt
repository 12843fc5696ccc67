use Rattle.table_laws.proofs.IdsGoOn.{last_id_rises, made_or_known, numbers_rise, runs_stay, runs_stay_by_id}
use Rattle.table_laws.proofs.StepsStay.{through_rises_on}
use Rattle.table_laws.proofs.laws.ids_and_numbers_go_on.Goals as goal

pub returns-clause-forgotten : goal.returns-clause-forgotten
returns-clause-forgotten c = through_rises_on

pub returns-clause-last_id : goal.returns-clause-last_id
returns-clause-last_id c = last_id_rises

pub returns-clause-numbers : goal.returns-clause-numbers
returns-clause-numbers c = numbers_rise

pub returns-clause-made : goal.returns-clause-made
returns-clause-made c = made_or_known

pub returns-clause-kept : goal.returns-clause-kept
returns-clause-kept c = runs_stay

pub returns-clause-kept_by_id : goal.returns-clause-kept_by_id
returns-clause-kept_by_id c = runs_stay_by_id

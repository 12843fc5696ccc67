use Rattle.run_table.proofs.StepKeeps.{stepped_is_sound}
use Rattle.table_laws.proofs.laws.steps_keep_tables_sound.Goals as goal

pub returns : goal.returns
returns c = λ t command sound. stepped_is_sound t command sound

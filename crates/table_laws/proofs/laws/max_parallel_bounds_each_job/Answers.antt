use Rattle.table_model.specs.Step.{empty}
use Rattle.run_table.proofs.StepKeeps.{empty_is_sound}
use Rattle.table_laws.proofs.ReachedTables.{after_is_sound}
use Rattle.table_laws.proofs.laws.max_parallel_bounds_each_job.Goals as goal

pub returns-clause-sound : goal.returns-clause-sound
returns-clause-sound c = λ t sound. sound.parallel_bounded

pub returns-clause-reached : goal.returns-clause-reached
returns-clause-reached c = λ commands. (after_is_sound empty commands empty_is_sound).parallel_bounded

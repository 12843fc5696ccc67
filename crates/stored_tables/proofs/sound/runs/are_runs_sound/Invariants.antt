use Rattle.stored_tables.specs.inner.OneByOne.{RunIsSound}
use Rattle.table_model.proofs.OneAfterAnother.{SoFar}
use Rattle.stored_tables.proofs.sound.runs.are_runs_sound.Given as goal

-- each run so far is sound
abbrev pub invariant-loop-r : goal.invariant-loop-r
invariant-loop-r l = SoFar (RunIsSound l.runs) l.all l.r

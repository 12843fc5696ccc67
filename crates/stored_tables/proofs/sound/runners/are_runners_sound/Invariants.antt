use Rattle.stored_tables.specs.inner.OneByOne.{RunnerIsSound}
use Rattle.table_model.proofs.OneAfterAnother.{SoFar}
use Rattle.stored_tables.proofs.sound.runners.are_runners_sound.Given as goal

-- each runner so far is sound
abbrev pub invariant-loop-k : goal.invariant-loop-k
invariant-loop-k l = SoFar (RunnerIsSound l.leases l.runs) l.runners l.k

use Rattle.stored_tables.specs.inner.OneByOne.{JobIsSound}
use Rattle.table_model.proofs.OneAfterAnother.{SoFar}
use Rattle.stored_tables.proofs.sound.jobs.are_jobs_sound.Given as goal

-- each job so far is sound
abbrev pub invariant-loop-j : goal.invariant-loop-j
invariant-loop-j l = SoFar (λ k x. JobIsSound l.runs l.r k x.state) l.jobs l.j

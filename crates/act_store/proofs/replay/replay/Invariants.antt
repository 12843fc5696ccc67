use Rattle.std.proofs.Common.{length}
use Rattle.act_store.proofs.Replaying.{SoFar}
use Rattle.act_store.proofs.replay.replay.Given as goal

abbrev pub invariant-loop-body : goal.invariant-loop-body
invariant-loop-body l = SoFar l.layout l.records l.rest l.fn.first l.table

abbrev pub decreases-loop-body : goal.decreases-loop-body
decreases-loop-body l = length l.rest

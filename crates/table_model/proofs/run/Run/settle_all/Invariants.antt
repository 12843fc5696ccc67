use Rattle.std.proofs.Common.{◌≡◌}
use Rattle.table_model.proofs.StoppedRuns.{settled_upto}
use Rattle.table_model.proofs.run.Run.settle_all.Given as goal

-- the jobs before `j` have finished
abbrev pub invariant-loop-j : goal.invariant-loop-j
invariant-loop-j l = l.self ≡ settled_upto l.settled l.j l.fn.self

use Rattle.std.proofs.Common.{◌≡◌, List}
use Rattle.table_model.specs.inner.Resuming.{RestBefore}
use Rattle.table_model.specs.Runs.{RunState}
use Rattle.table_model.specs.Settling.{settled, remaining_phases}
use Rattle.table_model.specs.Sound.{RunsAreSound}
use Rattle.table_model.specs.declared.sites.JobSite.{JobSite}
use Rattle.table_runs.proofs.runs.Runs.settle_from.Given as goal

-- settling from here gives what settling from the start gives, and no rule applies before `from`
pub record Settling (start runs : List RunState) (from : JobSite) : Type 0 where
  pub same_end : settled runs ≡ settled start
  pub sound : RunsAreSound runs
  pub rest : RestBefore runs from

abbrev pub invariant-loop-next : goal.invariant-loop-next
invariant-loop-next l = Settling l.fn.self l.self l.from

abbrev pub decreases-loop-next : goal.decreases-loop-next
decreases-loop-next l = remaining_phases l.self

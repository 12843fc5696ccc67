use Rattle.std.proofs.Common.{arith, ap, ◌∙◌}
use Rattle.table_model.specs.Runs.{changed_at, RunState}
use Rattle.table_model.specs.Settling.{finished_as}
use Rattle.table_model.proofs.StoppedRuns.{all_settled, next_settled}
use Rattle.table_model.proofs.run.Run.settle_all.Goals as goal

pub loop-j-preserved : goal.loop-j-preserved
loop-j-preserved c =
    c.settle_job.ensures
    ∙ ap (λ (run : RunState). record run { jobs = changed_at c.loop-j.j (finished_as c.args.settled) run.jobs }) c.loop-j.invariant
    ∙ next_settled c.args.settled c.args.self.now c.loop-j.j

pub returns : goal.returns
returns c = c.loop-j.invariant ∙ all_settled c.args.settled c.args.self.now c.loop-j.j (omega arith)

use Rattle.std.proofs.Common.{rules}
use Rattle.run_plan.specs.PlanOf.{plan_of}
use Rattle.table_model.proofs.NeedsLeft.{still_planned}
use Rattle.table_model.proofs.run.Run.set_leg.Goals as goal

pub invariant_of-self : goal.invariant_of-self
invariant_of-self c =
    still_planned (plan_of c.self.inside.prepared.body) c.self.inside.jobs.items c.args.j c.index_mut-job.result.now c.set_leg.new.self
    c.self.invariant (search rules) (search rules) (search rules) (search rules)

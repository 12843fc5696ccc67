use Rattle.std.proofs.Common.{subst, sym}
use Rattle.run_plan.specs.PlanOf.{needs_listed}
use Rattle.table_model.specs.inner.NeedsLeft.{NamedOnce}
use Rattle.table_model.proofs.NamedOnce.{named_once}
use Rattle.table_model.proofs.run.Run.settle_job.Goals as goal

pub settle_among-requires-clause-once : goal.settle_among-requires-clause-once
settle_among-requires-clause-once c = subst NamedOnce (sym c.graph.ensures.needs) (named_once (needs_listed c.plan.result.now))

use Rattle.std.proofs.Common.{◌≡◌, Ok, subst}
use Rattle.needs_graph.specs.Needs.{graph_of}
use Rattle.run_plan.specs.PlanOf.{needs_listed}
use Rattle.run_plan.proofs.NeedsOfPlans.{graph_is}
use Rattle.run_plan.proofs.planned.Plan.graph.Goals as goal

pub returns-clause-needs : goal.returns-clause-needs
returns-clause-needs c =
    graph_is (needs_listed c.args.self.now) _
    (subst (λ jobs. graph_of (needs_listed jobs) ≡ Ok c.self.inside.graph) c.self.view_is c.self.invariant)

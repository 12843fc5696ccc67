use Rattle.std.proofs.Common.{subst}
use Rattle.wf_expr.specs.Bound.{HasResults}
use Rattle.run_plan.specs.PlanOf.{plan_of}
use Rattle.table_model.specs.Groups.{RunFacts}
use Rattle.table_model.specs.LegContext.{context_of}
use Rattle.table_bindings.specs.BoundGroups.{facts_by, need_of_job}
use Rattle.table_bindings.proofs.Binding.{facts_now, leg_has_results}
use Rattle.table_bindings.proofs.run_identity.RunIdentity.leg_context.Goals as goal

pub returns : goal.returns
returns c = λ results.
    let run = c.self.inside.run.now in
    let id = c.self.inside.run_id.now in
    let number = c.self.inside.run_number.now in
    let attempt = c.self.inside.run_attempt.now in
    let job = c.args.job.now in
    let j = c.args.index in
    let l = c.args.leg in
    subst
    (λ (t : RunFacts). HasResults (context_of (facts_now run id number attempt job j l)) (need_of_job (plan_of t.event.body) j) results
    (context_of (facts_by t j job l results)))
    c.self.view_is (leg_has_results run id number attempt job j l results)

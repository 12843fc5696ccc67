use Rattle.std.specs.Prelude.{Some, None, refl}
use Rattle.std.proofs.Common.{ap, ◌∙◌}
use Rattle.definitions.specs.SmallText.{Admitted}
use Rattle.run_plan.specs.PlanOf.{plan_of}
use Rattle.table_model.specs.inner.Cells.{states}
use Rattle.table_model.proofs.DirectNeeds.{need_found}
use Rattle.table_model.proofs.direct_needs.result_of_need.Goals as goal

pub returns-in-Some : goal.returns-in-Some
returns-in-Some c =
    need_found c.args.run.now c.args.j c.args.id.now c.as_slice-plan.result.now c.needs.result.now (states c.jobs.result.now)
    (Some c.in-Some.index.now) c.result_at.result
    (c.as_slice-plan.ensures ∙ c.plan.ensures ∙ ap (λ (event : Admitted). plan_of event.body) c.prepared.ensures)
    c.needs.ensures c.jobs.ensures c.in-Some.ensures c.result_at.ensures

pub returns-in-None : goal.returns-in-None
returns-in-None c =
    need_found c.args.run.now c.args.j c.args.id.now c.as_slice-plan.result.now c.needs.result.now c.args.run.now.jobs None None
    (c.as_slice-plan.ensures ∙ c.plan.ensures ∙ ap (λ (event : Admitted). plan_of event.body) c.prepared.ensures)
    c.needs.ensures refl c.in-None.ensures refl

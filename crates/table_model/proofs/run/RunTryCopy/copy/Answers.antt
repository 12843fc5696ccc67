use Rattle.std.proofs.Common.{◌≡◌, List, rules, subst}
use Rattle.definitions.specs.SmallText.{Admitted}
use Rattle.run_plan.specs.PlanOf.{plan_of}
use Rattle.table_model.specs.inner.Cells.{JobCells}
use Rattle.table_model.specs.inner.NeedsLeft.{ArePlanned}
use Rattle.table_model.proofs.run.RunTryCopy.copy.Goals as goal
use Rattle.wf_value.proofs.PassedOn.{same_Ok}

pub invariant_of-result : goal.invariant_of-result
invariant_of-result c =
    let items : c.self.inside.jobs.items ≡ c.in_ok-copy_items.field-0.items = search rules in
    subst (λ (a : Admitted). ArePlanned (plan_of a.body) c.in_ok-copy_items.field-0.items) (same_Ok _ _ c.in_ok-share.ensures)
    (subst (λ (xs : List JobCells). ArePlanned (plan_of c.self.inside.prepared.body) xs) items c.self.invariant)

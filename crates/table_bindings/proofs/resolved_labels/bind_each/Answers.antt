use Rattle.std.specs.Prelude.{◌≡◌, ℕ, List, map}
use Rattle.std.proofs.Common.{ap, sym, ◌∙◌}
use Rattle.wf_expr.specs.Bound.{NeedOf, bound_of, no_results}
use Rattle.wf_expr.specs.declared.bound.BoundPiece.{BoundPiece}
use Rattle.wf_expr.specs.declared.piece.Piece.{Piece}
use Rattle.definitions.specs.SmallText.{Admitted}
use Rattle.run_plan.specs.PlanOf.{plan_of}
use Rattle.table_model.specs.LegContext.{context_of}
use Rattle.table_bindings.specs.BoundGroups.{facts_by, need_of_job}
use Rattle.table_bindings.specs.KnownLabels.{kept_of, kept_of_leg}
use Rattle.table_bindings.specs.declared.resolved_labels.ResolvedLabels.{ResolvedLabels}
use Rattle.table_bindings.proofs.Binding.{one_pushed}
use Rattle.table_bindings.proofs.KeptLabels.{bound_by_none}
use Rattle.table_bindings.proofs.resolved_labels.bind_each.Goals as goal
use Rattle.wf_value.proofs.PassedOn.{same_Ok}

pub loop-leg-preserved : goal.loop-leg-preserved
loop-leg-preserved c =
    let identity = c.args.identity.now in
    let job = c.args.job.now in
    let needs = c.leg_needs-needs.result in
    let context = context_of c.leg_context-context.result in
    let need_of = need_of_job (plan_of identity.event.body) c.args.j in
    let kept_by : NeedOf → List (List Piece) → ResolvedLabels = λ need_of labels. kept_of (map (bound_of context need_of) labels) in
    let is_its : ℕ → ResolvedLabels → Type 0 = λ l kept. kept ≡ kept_of_leg identity c.args.j job l in
    one_pushed is_its c.loop-leg.legs.items c.push.new.self.items c.in_ok-wanted.wanted c.loop-leg.leg c.in_ok-push.ensures.items
    c.loop-leg.invariant.0 c.loop-leg.invariant.1
    (sym (same_Ok _ _ c.in_ok-wanted.ensures)
    ∙ ap kept_of (sym (same_Ok _ _ c.in_ok-bound.ensures))
    ∙ ap (kept_by (need_of_job (plan_of needs.0.admitted.body) needs.1)) c.as_slice.ensures
    ∙ ap (λ (event : Admitted). kept_by (need_of_job (plan_of event.body) needs.1) job.labels) c.leg_needs-needs.ensures.event
    ∙ ap (λ (index : ℕ). kept_by (need_of_job (plan_of identity.event.body) index) job.labels) c.leg_needs-needs.ensures.index
    ∙ ap (λ (bound : List Piece → List BoundPiece). kept_of (map bound job.labels))
    (bound_by_none context need_of (context_of (facts_by identity c.args.j job c.loop-leg.leg no_results))
    (c.leg_context-context.ensures no_results)))

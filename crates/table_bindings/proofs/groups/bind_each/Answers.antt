use Rattle.std.specs.Prelude.{ℕ, List}
use Rattle.std.proofs.Common.{ap, subst, ◌∙◌}
use Rattle.wf_expr.specs.Bound.{Results}
use Rattle.wf_expr.specs.TemplateValue.{Values}
use Rattle.wf_reader.specs.Event.{event_of}
use Rattle.table_model.specs.LegContext.{context_of}
use Rattle.table_bindings.specs.BoundGroups.{Says, facts_by}
use Rattle.table_bindings.specs.declared.groups.GroupRequest.{GroupRequest}
use Rattle.table_bindings.proofs.Binding.{by_needs, one_pushed}
use Rattle.table_bindings.proofs.groups.bind_each.Goals as goal

pub loop-leg-preserved : goal.loop-leg-preserved
loop-leg-preserved c =
    let identity = c.args.identity.now in
    let bound = c.in_ok-bound.bound in
    let values : ℕ → Results → Values = λ l results. context_of (facts_by identity c.args.j c.args.job.now l results) in
    let said : ℕ → GroupRequest → Type 0 = λ l kept. Says (event_of identity.event.body).repo (values l) c.args.requested.now kept in
    let has = by_needs (context_of c.leg_context-context.result) c.leg_needs-needs.result identity.event c.args.j (values c.loop-leg.leg)
    c.leg_needs-needs.ensures.event c.leg_needs-needs.ensures.index c.leg_context-context.ensures in
    let repository = c.as_str-repository.ensures ∙ c.repo.ensures ∙ ap (λ a. (event_of a.body).repo) c.prepared.ensures in
    one_pushed said c.loop-leg.legs.items c.push.new.self.items bound c.loop-leg.leg c.in_ok-push.ensures.items c.loop-leg.invariant.0
    c.loop-leg.invariant.1
    (subst (λ (r : List ℕ). Says r (values c.loop-leg.leg) c.args.requested.now bound) repository
    (c.in_ok-bound.ensures.says (values c.loop-leg.leg) has))

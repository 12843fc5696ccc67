use Rattle.std.specs.Prelude.{ℕ}
use Rattle.wf_expr.specs.Bound.{Results}
use Rattle.wf_expr.specs.TemplateValue.{Values}
use Rattle.table_model.specs.LegContext.{context_of}
use Rattle.table_bindings.specs.BoundFlags.{SaysFlag}
use Rattle.table_bindings.specs.BoundGroups.{facts_by}
use Rattle.table_bindings.proofs.Binding.{by_needs, one_pushed}
use Rattle.table_bindings.proofs.flags.bind_each.Goals as goal

pub loop-leg-preserved : goal.loop-leg-preserved
loop-leg-preserved c =
    let identity = c.args.identity.now in
    let values : ℕ → Results → Values = λ l results. context_of (facts_by identity c.args.j c.args.job.now l results) in
    let has = by_needs (context_of c.leg_context-context.result) c.leg_needs-needs.result identity.event c.args.j (values c.loop-leg.leg)
    c.leg_needs-needs.ensures.event c.leg_needs-needs.ensures.index c.leg_context-context.ensures in
    one_pushed (SaysFlag identity c.args.j c.args.job.now) c.loop-leg.flags.items c.push.new.self.items c.in_ok-bound.bound c.loop-leg.leg
    c.in_ok-push.ensures.items c.loop-leg.invariant.0 c.loop-leg.invariant.1
    (λ results. c.in_ok-bound.ensures.says results (values c.loop-leg.leg results) (has results))

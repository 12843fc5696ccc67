use Rattle.std.proofs.Common.{◌≡◌, ◌∙◌, ◌+◌, ap, sym}
use Rattle.std.specs.Prelude.{Bool, true, false, if◌then◌else◌}
use Rattle.table_views.specs.MetricLines.{capped}
use Rattle.service_metrics.specs.Refusals.{is_refused}
use Rattle.service_metrics.proofs.OneMore.{refusals_as}
use Rattle.service_metrics.proofs.refusal_counts.RefusalCount.add.Goals as goal

pub returns-then-is_refused : goal.returns-then-is_refused
returns-then-is_refused c =
    let old = c.args.self.now in
    let is : is_refused old.number c.args.reply.now ≡ true = sym c.is_refused.ensures ∙ c.if-is_refused.true in
    ap (refusals_as old.number)
    (c.one_more.ensures ∙ sym (ap (λ (b : Bool). if b then capped (old.count + 1) else old.count) is))

pub returns-else-is_refused : goal.returns-else-is_refused
returns-else-is_refused c =
    let old = c.args.self.now in
    let is : is_refused old.number c.args.reply.now ≡ false = sym c.is_refused.ensures ∙ c.if-is_refused.false in
    ap (refusals_as old.number) (sym (ap (λ (b : Bool). if b then capped (old.count + 1) else old.count) is))

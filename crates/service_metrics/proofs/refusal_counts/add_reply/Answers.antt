use Rattle.std.proofs.Common.{◌<◌, ◌∙◌, length, get_or, ap, set, arith}
use Rattle.std.proofs.lemmas.List.Edits.{map_over_more}
use Rattle.service_metrics.specs.Refusals.{with_reply}
use Rattle.service_metrics.specs.declared.refusal_counts.RefusalCount.{RefusalCount}
use Rattle.service_metrics.proofs.OneMore.{read_again}
use Rattle.service_metrics.proofs.refusal_counts.add_reply.Goals as goal

pub loop-count-preserved : goal.loop-count-preserved
loop-count-preserved c =
    let at = c.loop-count.count-index in
    let before = c.args.counts.now in
    let now = c.loop-count.counts in
    let none : RefusalCount = record { number = 0; count = 0 } in
    let below : at < length before = omega (arith, c.loop-count-test.true) in
    let within : at < length now = omega (arith, below, c.loop-count.auto.counts) in
    ap (λ (one : RefusalCount). set now at one) c.add.ensures
    ∙ map_over_more (with_reply c.args.reply.now) before now at (get_or now at none) below c.loop-count.invariant (read_again now at none within)

use Rattle.std.proofs.Common.{◌≡◌, ◌∙◌, ◌+◌, ℕ, List, map, ap, ap₂, rules}
use Rattle.table_views.specs.MetricLines.{capped}
use Rattle.service_metrics.specs.Counters.{CountersState}
use Rattle.service_metrics.specs.Refusals.{with_reply}
use Rattle.service_metrics.specs.declared.refusal_counts.RefusalCount.{RefusalCount}
use Rattle.service_metrics.proofs.OneMore.{counters, entry_counted}
use Rattle.service_metrics.proofs.counters.Counters.entered.Goals as goal

pub returns : goal.returns
returns c = λ done is.
    let old = c.self.inside in
    let reply = c.args.reply.now in
    let view : counters old.entries old.refusals old.buckets old.commits old.nanos ≡ c.args.self.now = search rules in
    entry_counted done reply c.args.self.now _ is
    (ap₂ (λ (n : ℕ) (rs : List RefusalCount). counters n rs old.buckets old.commits old.nanos) c.one_more.ensures
    (c.add_reply.ensures ∙ ap (map (with_reply reply)) c.as_mut_slice.ensures.value)
    ∙ ap (λ (o : CountersState). counters (capped (o.entries + 1)) (map (with_reply reply) o.refusals) o.buckets o.commits o.nanos) view)

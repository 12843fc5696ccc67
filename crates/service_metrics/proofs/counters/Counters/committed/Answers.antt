use Rattle.std.proofs.Common.{◌≡◌, ◌∙◌, ◌+◌, ℕ, List, map, ap, ap₂, rules}
use Rattle.std.specs.Duration.{as_nanos}
use Rattle.table_views.specs.MetricLines.{capped}
use Rattle.service_metrics.specs.CommitTimes.{with_commit}
use Rattle.service_metrics.specs.Counters.{CountersState}
use Rattle.service_metrics.specs.declared.commit_times.Bucket.{Bucket}
use Rattle.service_metrics.proofs.OneMore.{commit_counted, counters}
use Rattle.service_metrics.proofs.counters.Counters.committed.Goals as goal

pub returns : goal.returns
returns c = λ done is.
    let old = c.self.inside in
    let n = c.nanos_of-nanos.result in
    let view : counters old.entries old.refusals old.buckets old.commits old.nanos ≡ c.args.self.now = search rules in
    commit_counted done (capped (as_nanos c.args.took)) c.args.self.now _ is
    (ap (λ (bs : List Bucket). counters old.entries old.refusals bs c.one_more.new.count c.longer-self-inside.result)
    (c.add_commit.ensures ∙ ap (map (with_commit n)) c.as_mut_slice.ensures.value)
    ∙ ap₂ (λ (k s : ℕ). counters old.entries old.refusals (map (with_commit n) old.buckets) k s) c.one_more.ensures c.longer-self-inside.ensures
    ∙ ap (λ (t : ℕ). counters old.entries old.refusals (map (with_commit t) old.buckets) (capped (old.commits + 1)) (capped (old.nanos + t)))
    c.nanos_of-nanos.ensures
    ∙ ap (λ (o : CountersState). counters o.entries o.refusals (map (with_commit (capped (as_nanos c.args.took))) o.buckets) (capped (o.commits + 1))
    (capped (o.nanos + capped (as_nanos c.args.took)))) view)

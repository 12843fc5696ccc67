use Rattle.std.proofs.Common.{◌≡◌, ◌∙◌, ◌++◌, List, ap, rules}
use Rattle.std.proofs.lemmas.Result.{on_ok_weaker}
use Rattle.std.specs.Prelude.{string_bytes}
use Rattle.table_views.proofs.SoFar.{after}
use Rattle.service_metrics.specs.CommitTimes.{commit_lines}
use Rattle.service_metrics.specs.Counters.{CountersState, count_lines}
use Rattle.service_metrics.specs.Refusals.{refusal_lines}
use Rattle.service_metrics.specs.declared.commit_times.Bucket.{Bucket}
use Rattle.service_metrics.specs.declared.refusal_counts.RefusalCount.{RefusalCount}
use Rattle.service_metrics.proofs.OneMore.{counters}
use Rattle.service_metrics.proofs.counters.Counters.push.Goals as goal

pub returns : goal.returns
returns c =
    let of = c.self.inside in
    let old = string_bytes c.args.text.now in
    let entries = string_bytes c.push_metric.new.text in
    let refusals = string_bytes c.push_refusals.new.text in
    let view : counters of.entries of.refusals of.buckets of.commits of.nanos ≡ c.args.self.now = search rules in
    on_ok_weaker c.push_commits.result
    (λ last. after old refusals (string_bytes c.push_commits.new.text) _ (commit_lines of.buckets of.commits of.nanos)
    (after old entries refusals _ (refusal_lines of.refusals) c.in_ok-push_metric.ensures
    (c.in_ok-push_refusals.ensures ∙ ap (λ (rs : List RefusalCount). entries ++ refusal_lines rs) c.as_slice.ensures))
    (last ∙ ap (λ (bs : List Bucket). refusals ++ commit_lines bs of.commits of.nanos) c.as_slice-2.ensures)
    ∙ ap (λ (o : CountersState). old ++ count_lines o) view)
    c.push_commits.ensures

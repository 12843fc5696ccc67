use Rattle.std.proofs.lemmas.Result.{on_ok_weaker}
use Rattle.std.specs.Prelude.{string_bytes}
use Rattle.table_views.proofs.SoFar.{after}
use Rattle.service_metrics.proofs.commit_times.push_commits.Goals as goal

pub returns : goal.returns
returns c =
    let old = string_bytes c.args.text.now in
    on_ok_weaker c.push_value.result
    (λ last. after old (string_bytes c.push_sum.new.text) (string_bytes c.push_value.new.text) _ _
    (after old (string_bytes c.push_bucket.new.text) (string_bytes c.push_sum.new.text) _ _
    (after old (string_bytes c.push_buckets.new.text) (string_bytes c.push_bucket.new.text) _ _
    (after old (string_bytes c.push_head.new.text) (string_bytes c.push_buckets.new.text) _ _
    c.in_ok-push_head.ensures c.in_ok-push_buckets.ensures) c.in_ok-push_bucket.ensures) c.in_ok-push_sum.ensures) last)
    c.push_value.ensures
